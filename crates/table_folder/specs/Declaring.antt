-- What a crash leaves while a declaration is put at its name.
use Rattle.std.specs.Prelude.{◌≡◌, ◌⊎◌, ℕ, List, Option, Some}
use Rattle.table_folder.specs.Settling.{AsBefore}
use Rattle.table_folder.specs.declared.name.FileName.{FileName}
use Rattle.table_folder.specs.declared.name.FileName.TheVariants.{Declaration, DeclarationDraft}

-- each name as it was, but for the draft; or the declaration has this text
abbrev pub DeclaredBound : (was has : FileName → Option (List ℕ) → Type 0) → List ℕ → FileName → Option (List ℕ) → Type 0
DeclaredBound was has text n c = AsBefore was has n c ⊎ ((n ≡ DeclarationDraft) ⊎ ((n ≡ Declaration) × (c ≡ Some text)))
