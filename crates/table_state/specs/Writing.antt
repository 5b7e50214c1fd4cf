-- What is gathered, and what stands on a disk.
use Rattle.std.specs.Prelude.{◌≡◌, ℕ, ◌+◌, List, ◌++◌, length, Option, Result, Ok, Err}
use Rattle.std.specs.Io.KnownBytes.{append_known}
use Rattle.table_engine.specs.Devices.{IsFront, raised}
use Rattle.table_state.specs.declared.fault.StateWhy.{StateWhy}
use Rattle.table_state.specs.declared.fault.StateWhy.TheVariants as whys

-- the bytes of a disk, where they are known, how many they are, and what is gathered behind them
pub record Gathered : Type 0 where
  pub bytes : Option (List ℕ)
  pub size : ℕ
  pub rest : List ℕ

abbrev pub gathered : Option (List ℕ) → ℕ → List ℕ → Gathered
gathered bytes size rest = record { bytes = bytes; size = size; rest = rest }

-- A text was put behind what was gathered: some of both stands on the disk, and the rest is gathered.
pub record Puts (old new : Gathered) (text : List ℕ) : Type 0 where
  pub done : List ℕ
  pub parts : done ++ new.rest ≡ old.rest ++ text
  pub bytes : new.bytes ≡ append_known old.bytes done
  pub size : new.size ≡ old.size + length done

-- A front of both stands on the disk.
pub record Stops (old new : Gathered) (text : List ℕ) : Type 0 where
  pub front : List ℕ
  pub is_front : IsFront front (old.rest ++ text)
  pub bytes : new.bytes ≡ append_known old.bytes front

-- memory was refused, or the disk failed
abbrev pub IsInterruption : StateWhy → Type 0
IsInterruption whys.Memory = Unit {0}
IsInterruption whys.Disk = Unit {0}
IsInterruption whys.Table = ⊥
IsInterruption (whys.Line number) = ⊥

-- the text was put, or a front of it stands on the disk
abbrev pub Putting : {T : Type 0} → Result T StateWhy → Gathered → Gathered → List ℕ → Type 0
Putting (Ok x) old new text = Puts old new text
Putting (Err why) old new text = Stops old new text × IsInterruption why

-- the failures of a disk after that, or after a state was read
abbrev pub failures_for : StateWhy → ℕ → ℕ
failures_for whys.Disk count = raised count
failures_for whys.Memory count = count
failures_for whys.Table count = count
failures_for (whys.Line number) count = count

abbrev pub failures_of_state : {T : Type 0} → Result T StateWhy → ℕ → ℕ
failures_of_state (Ok x) count = count
failures_of_state (Err why) count = failures_for why count

-- the text stands behind what was there, or a front of it
abbrev pub IsWritten : Option (List ℕ) → Option (List ℕ) → List ℕ → Type 0
IsWritten old new text = new ≡ append_known old text

abbrev pub IsCutOff : Option (List ℕ) → Option (List ℕ) → List ℕ → Type 0
IsCutOff old new text = (front : List ℕ) × IsFront front text × (new ≡ append_known old front)
