-- Readers and writers whose failures are counted.
use Rattle.std.specs.Prelude.{◌≡◌, ℕ, ◌+◌, ◌-◌, ◌^◌, ◌==◌, ◌&&◌, nat_lt, min, List, ◌++◌, Option, Result, Ok, Err, if◌then◌else◌}
use Rattle.std.specs.Io.KnownBytes.{Appends}
use Rattle.table_engine.specs.declared.stream.StreamFault.{StreamFault}
use Rattle.table_engine.specs.declared.stream.StreamFault.TheVariants.{Read, Write, Memory}

-- the greatest value of a count
abbrev pub greatest : ℕ
greatest = 2 ^ 64 - 1

-- a count after so many more
abbrev pub raised_by : ℕ → ℕ → ℕ
raised_by n count = min (count + n) greatest

-- a count after one more
abbrev pub raised : ℕ → ℕ
raised count = raised_by 1 count

-- the failures of a reader after a read
abbrev pub failures_after_read : {E : Type 0} → Result ℕ E → ℕ → ℕ
failures_after_read (Ok n) count = count
failures_after_read (Err e) count = raised count

-- the ends that a reader has told after a read into so many bytes: one more where it succeeded, had room for a byte and gave none
abbrev pub ends_after_read : {E : Type 0} → Result ℕ E → ℕ → ℕ → ℕ
ends_after_read (Ok n) room count = if n == 0 && nat_lt 0 room then raised count else count
ends_after_read (Err e) room count = count

-- the failures of a writer after a write of so many bytes: one more where it failed, or had a byte to take and took none
abbrev pub failures_after_write : {E : Type 0} → Result ℕ E → ℕ → ℕ → ℕ
failures_after_write (Ok n) size count = if n == 0 && nat_lt 0 size then raised count else count
failures_after_write (Err e) size count = raised count

-- a count after a call that either succeeds or adds one
abbrev pub failures_after : {T E : Type 0} → Result T E → ℕ → ℕ
failures_after (Ok x) count = count
failures_after (Err e) count = raised count

-- the first elements of a list
abbrev pub IsFront : {X : Type 0} → List X → List X → Type 0
IsFront {X} front whole = (back : List X) × (front ++ back ≡ whole)

-- known bytes grow by the first of these bytes
abbrev pub AppendsFront : Option (List ℕ) → Option (List ℕ) → List ℕ → Type 0
AppendsFront old new bytes = (front : List ℕ) × IsFront front bytes × Appends old new front

-- the failures of the writer of a stream that ended so
abbrev pub failures_after_stream : Result (Unit {0}) StreamFault → ℕ → ℕ
failures_after_stream (Err Write) count = raised count
failures_after_stream (Err Read) count = count
failures_after_stream (Err Memory) count = count
failures_after_stream (Ok x) count = count
