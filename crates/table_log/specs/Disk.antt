-- What calls of a disk do. Its bytes are known where they are in memory.
use Rattle.std.specs.Prelude.{◌≡◌, ◌⊎◌, ℕ, ◌+◌, ◌<◌, ◌≤◌, List, length, take, drop, option_map, Option, Some, Result, Ok, Err}
use Rattle.std.specs.Io.KnownBytes.{append_known}
use Rattle.std.proofs.Common.{ap}
use Rattle.table_engine.specs.Devices.{IsFront}

-- so many bytes from this place on were read; none only at the end, or into no room
pub record Reads (bytes : Option (List ℕ)) (size at room : ℕ) (piece : List ℕ) (count : ℕ) : Type 0 where
  pub bound : count ≤ length piece
  pub within : at + count ≤ size
  pub some : at < size → 0 < room → 0 < count
  pub read : (known : List ℕ) → bytes ≡ Some known → take count piece ≡ take count (drop at known)

-- all bytes were appended; or, where the disk failed, a front of them
abbrev pub AppendsAll : {E : Type 0} → Result (Unit {0}) E → Option (List ℕ) → Option (List ℕ) → List ℕ → Type 0
AppendsAll (Ok x) old new bytes = new ≡ append_known old bytes
AppendsAll (Err e) old new bytes = (front : List ℕ) × IsFront front bytes × (new ≡ append_known old front)

-- how many bytes are synced after a sync
abbrev pub synced_after : {E : Type 0} → Result (Unit {0}) E → ℕ → ℕ → ℕ
synced_after (Ok x) size synced = size
synced_after (Err e) size synced = synced

-- so many bytes are left, all of them synced; or, where the disk failed, perhaps all
abbrev pub Cuts : {E : Type 0} → Result (Unit {0}) E → ℕ → Option (List ℕ) → Option (List ℕ) → ℕ → ℕ → Type 0
Cuts (Ok x) count old new size synced = (new ≡ option_map (take count) old) × (size ≡ count) × (synced ≡ count)
Cuts (Err e) count old new size synced = (new ≡ old) ⊎ (new ≡ option_map (take count) old)

-- known bytes are as many as they are
pub same_length : (items bytes : List ℕ) → Some items ≡ Some bytes → length items ≡ length bytes
same_length items bytes e = let same : items ≡ bytes = cc in ap length same
