-- What is seen of a folder, and why it may not be.
use Rattle.std.specs.Prelude.{◌≡◌, List, ℕ, Option, Some, Result, Ok, Err}
use Rattle.table_folder.specs.Disk.{Image}
use Rattle.table_folder.specs.declared.fault.FolderFault.{FolderFault}
use Rattle.table_folder.specs.declared.fault.FolderFault.TheVariants as faults
use Rattle.table_folder.specs.declared.name.FileName.{FileName}
use Rattle.table_log.specs.declared.fault.OpenWhy.{OpenWhy}
use Rattle.table_log.specs.declared.fault.OpenWhy.TheVariants as whys

-- each name is seen with these files
abbrev pub IsSeen : (FileName → Option (Option (List ℕ))) → Image → Type 0
IsSeen seen files = (n : FileName) → seen n ≡ Some (files n)

-- memory was refused, or a file or the names can't be read
abbrev pub IsInterruption : FolderFault → Type 0
IsInterruption faults.Memory = Unit {0}
IsInterruption (faults.File name) = Unit {0}
IsInterruption faults.Names = Unit {0}
IsInterruption (faults.Unwritten name) = ⊥
IsInterruption (faults.Behind name) = ⊥
IsInterruption (faults.Lacking name) = ⊥
IsInterruption faults.State = ⊥
IsInterruption (faults.StateLine number) = ⊥
IsInterruption (faults.Missing name) = ⊥
IsInterruption (faults.Log name why) = ⊥
IsInterruption (faults.Recovery name why) = ⊥
IsInterruption (faults.Old name) = ⊥
IsInterruption (faults.Beside name) = ⊥

-- an answer has this, or there is none for an interruption alone
abbrev pub Answers : {T : Type 0} → (T → Type 0) → Result T FolderFault → Type 0
Answers P (Ok x) = P x
Answers P (Err fault) = IsInterruption fault

-- memory was refused, or the disk failed
abbrev pub IsBroken : OpenWhy → Type 0
IsBroken whys.Memory = Unit {0}
IsBroken whys.Disk = Unit {0}
IsBroken (whys.Line number) = ⊥
