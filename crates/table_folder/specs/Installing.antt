-- A table that is put in the place of all that a folder has of it.
use Rattle.std.specs.Prelude.{◌≡◌, ℕ, List, Option, Some, None}
use Rattle.table_folder.specs.Disk.{Image}
use Rattle.table_folder.specs.declared.name.FileName.{FileName}
use Rattle.table_folder.specs.declared.name.FileName.TheVariants.{Declaration, Log, Mark, State}

abbrev pub IsLog : FileName → Type 0
IsLog (Log begin) = Unit {0}
IsLog n = ⊥

-- a log, the mark or the declaration
abbrev pub IsCleared : FileName → Type 0
IsCleared (Log begin) = Unit {0}
IsCleared Mark = Unit {0}
IsCleared Declaration = Unit {0}
IsCleared n = ⊥

-- the files without these
abbrev pub cleared_files : Image → Image
cleared_files files (Log begin) = None
cleared_files files Mark = None
cleared_files files Declaration = None
cleared_files files n = files n

-- where a name is absent in these files, a crash leaves it so once the names are on the disk
abbrev pub LacksThese : (FileName → Option (List ℕ) → Type 0) → Image → Type 0
LacksThese has files = (n : FileName) (c : Option (List ℕ)) → files n ≡ None → has n c → c ≡ None

-- a name is seen to be absent, and a crash leaves it so once the names are on the disk
abbrev pub IsGone : (FileName → Option (Option (List ℕ))) → (FileName → Option (List ℕ) → Type 0) → FileName → Type 0
IsGone seen has n = (seen n ≡ Some None) × ((c : Option (List ℕ)) → has n c → c ≡ None)

-- the files are a state and a declaration of this text, and neither a log nor a mark is there
pub record IsInstalled (state text : List ℕ) (image : Image) : Type 0 where
  pub is_state : image State ≡ Some state
  pub declared : image Declaration ≡ Some text
  pub no_mark : image Mark ≡ None
  pub no_log : (begin : Option ℕ) → image (Log begin) ≡ None
