-- The table of a number, as it is found behind its lock.
use Rattle.std.specs.Prelude.{◌≡◌, ℕ, ◌<◌, List, Option, Some, length, slice_get}
use Rattle.table_log.specs.Logged.{IsKept, LogData}
use Rattle.table_log.specs.declared.logged.Mark.{Mark}
use Rattle.logged_tables.specs.Standing.{StopsSync, SyncsTo, mark_of}
use Rattle.logged_tables.specs.declared.fault.OverAt.{OverAt}

-- What was found has this number, and the name that goes with it. Its table is what its log leaves.
pub record IsFound (names : List (List ℕ)) (place number : ℕ) (log : LogData) : Type 0 where
  pub numbered : number ≡ place
  pub named : slice_get names place ≡ Some log.table.shape.name
  pub kept : IsKept log

-- The log of the table of this number is synced up to a mark: it was found so, or else a sync was made.
pub record IsCovered (names : List (List ℕ)) (place : ℕ) (mark : Mark) : Type 0 where
  pub number : ℕ
  pub old : LogData
  pub new : LogData
  pub found : IsFound names place number old
  pub synced : SyncsTo mark old new

-- the same of each mark that stands
abbrev pub AreCovered : List (List ℕ) → List (Option Mark) → Type 0
AreCovered names marks = (place : ℕ) (mark : Mark) → slice_get marks place ≡ Some (Some mark) → IsCovered names place mark

-- The log of the table of this number could not be synced up to a mark, now or before.
pub record IsUnsynced (names : List (List ℕ)) (at : OverAt) : Type 0 where
  pub number : ℕ
  pub mark : Mark
  pub old : LogData
  pub new : LogData
  pub found : IsFound names at.table number old
  pub stopped : StopsSync mark old new

-- The log of the table of this number is synced to its end.
pub record IsSynced (names : List (List ℕ)) (place : ℕ) : Type 0 where
  pub number : ℕ
  pub old : LogData
  pub new : LogData
  pub found : IsFound names place number old
  pub synced : SyncsTo (mark_of old) old new

-- It is synced to the end that it was found with.
pub record IsSyncedSoFar (names : List (List ℕ)) (place : ℕ) : Type 0 where
  pub number : ℕ
  pub log : LogData
  pub found : IsFound names place number log
  pub covered : IsCovered names place (mark_of log)

-- the same of each table
abbrev pub AreSynced : List (List ℕ) → Type 0
AreSynced names = (place : ℕ) → place < length names → IsSynced names place

abbrev pub AreSyncedSoFar : List (List ℕ) → Type 0
AreSyncedSoFar names = (place : ℕ) → place < length names → IsSyncedSoFar names place
