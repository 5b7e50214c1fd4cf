-- What calls of a file do. Its bytes may be known.
use Rattle.std.specs.Prelude.{◌≡◌, ℕ, ◌+◌, ◌<◌, List, ◌++◌, length, take, drop, option_map, Option, Some, Result, Ok, Err}
use Rattle.std.specs.Io.KnownBytes.{append_known}

-- so many bytes from this place on were read; none only where the bytes end, or into no room
abbrev pub ReadsFrom : Option (List ℕ) → ℕ → List ℕ → ℕ → Type 0
ReadsFrom contents at piece count = (known : List ℕ) → contents ≡ Some known → take count piece ≡ take count (drop at known)

-- bytes that stand from a place on, over what stood there
abbrev pub over : ℕ → List ℕ → List ℕ → List ℕ
over at bytes old = take at old ++ (bytes ++ drop (at + length bytes) old)

-- the bytes after a write at a place that took so many, or none
abbrev pub written_at : {E : Type 0} → Result ℕ E → ℕ → List ℕ → Option (List ℕ) → Option (List ℕ)
written_at (Ok count) at bytes old = option_map (over at (take count bytes)) old
written_at (Err e) at bytes old = old

-- the bytes after a write behind the others that took so many, or none
abbrev pub written : {E : Type 0} → Result ℕ E → List ℕ → Option (List ℕ) → Option (List ℕ)
written (Ok count) bytes old = append_known old (take count bytes)
written (Err e) bytes old = old

-- how many bytes there are then
abbrev pub counted_after : {E : Type 0} → Result ℕ E → ℕ → ℕ
counted_after (Ok count) size = size + count
counted_after (Err e) size = size

-- a front of these bytes was appended, but not all of them
pub record LacksBack (old new : Option (List ℕ)) (size size_then : ℕ) (bytes : List ℕ) : Type 0 where
  pub front : List ℕ
  pub back : List ℕ
  pub some : 0 < length back
  pub split : front ++ back ≡ bytes
  pub appended : new ≡ append_known old front
  pub more : size_then ≡ size + length front
