-- What a contract knows of the real folder: nothing.
use Rattle.std.proofs.Common.{⊎_elim}
use Rattle.table_folder.specs.Disk.{Image, IsLeft}
use Rattle.table_folder.specs.declared.name.FileName.TheVariants.{State}

-- where a crash is known to leave nothing, no files are left
pub no_image : (image : Image) → IsLeft (λ n c. ⊥) (λ n c. ⊥) image → ⊥
no_image image left = ⊎_elim (λ none. none) (λ none. none) (left State)
