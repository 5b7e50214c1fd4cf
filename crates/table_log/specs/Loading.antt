-- What is loaded so far.
use Rattle.std.specs.Prelude.{◌≡◌, ℕ, ◌+◌, ◌<◌, ◌≤◌, List, [], ◌++◌, length, take, Option, Some, None, Result, Ok, Err}
use Rattle.table_step.specs.Step.{TableState}
use Rattle.table_log.specs.declared.fault.OpenWhy.{OpenWhy}
use Rattle.table_log.specs.declared.fault.OpenWhy.TheVariants as whys
use Rattle.table_log.specs.declared.loading.Loader.{Loader}
use Rattle.table_log.specs.Log.{IsRefused, after_line, begun, replayed, whole_lines}
use Rattle.table_engine.specs.Devices.{raised}

-- the table after the whole lines of these bytes, how many they are, and what stands behind them
pub record IsLoading (start : TableState) (seen : List ℕ) (loader : Loader) : Type 0 where
  pub line : begun seen ≡ loader.line.items
  pub table : replayed start seen ≡ Some loader.table
  pub number : length (whole_lines seen) ≡ loader.number
  pub few : loader.number ≤ length seen

-- further bytes were loaded
abbrev pub Loads : Loader → List ℕ → Loader → Type 0
Loads old bytes new = (start : TableState) (seen : List ℕ) → IsLoading start seen old → IsLoading start (seen ++ bytes) new

-- by no more lines, and a line that is longer by no more bytes
pub record Grows (old : Loader) (count : ℕ) (new : Loader) : Type 0 where
  pub number : new.number ≤ old.number + count
  pub line : length new.line.items ≤ length old.line.items + count

-- the line behind those that were loaded is carried out
pub record LoadsLine (old new : Loader) : Type 0 where
  pub table : after_line old.table old.line.items ≡ Some new.table
  pub line : new.line.items ≡ []
  pub number : new.number ≡ old.number + 1

-- why it is not
abbrev pub RefusesLine : Loader → OpenWhy → Type 0
RefusesLine old (whys.Line number) = (after_line old.table old.line.items ≡ None) × (number ≡ old.number + 1)
RefusesLine old whys.Memory = Unit {0}
RefusesLine old whys.Disk = ⊥

-- why further bytes were not loaded
abbrev pub Refuses : Loader → List ℕ → OpenWhy → Type 0
Refuses old bytes (whys.Line number) = (start : TableState) (seen : List ℕ) → IsLoading start seen old → IsRefused start (seen ++ bytes) number
Refuses old bytes whys.Memory = Unit {0}
Refuses old bytes whys.Disk = ⊥

-- ---- the bytes of a disk

-- they were loaded from one place to another
abbrev pub LoadsTo : Option (List ℕ) → ℕ → Loader → ℕ → Loader → Type 0
LoadsTo contents at old next new = (start : TableState) (bytes : List ℕ) → contents ≡ Some bytes → IsLoading start (take at bytes) old → IsLoading start (take next bytes) new

-- from one place to a further one
pub record GrowsTo (at : ℕ) (old : Loader) (next : ℕ) (new : Loader) : Type 0 where
  pub further : at < next
  pub number : new.number + at ≤ old.number + next
  pub line : length new.line.items + at ≤ length old.line.items + next

-- why bytes are not loaded
abbrev pub IsUnloaded : TableState → List ℕ → OpenWhy → Type 0
IsUnloaded start bytes (whys.Line number) = IsRefused start bytes number
IsUnloaded start bytes whys.Memory = Unit {0}
IsUnloaded start bytes whys.Disk = Unit {0}

-- why they are not, from a place on
abbrev pub RefusesFrom : Option (List ℕ) → ℕ → Loader → OpenWhy → Type 0
RefusesFrom contents at old why = (start : TableState) (bytes : List ℕ) → contents ≡ Some bytes → IsLoading start (take at bytes) old → IsUnloaded start bytes why

-- the failures of a disk whose log was not loaded
abbrev pub failures_after_why : OpenWhy → ℕ → ℕ
failures_after_why (whys.Line number) count = count
failures_after_why whys.Memory count = count
failures_after_why whys.Disk count = raised count

-- the failures of a disk that was loaded, or not
abbrev pub failures_after_load : {T : Type 0} → Result T OpenWhy → ℕ → ℕ
failures_after_load (Ok x) count = count
failures_after_load (Err why) count = failures_after_why why count
