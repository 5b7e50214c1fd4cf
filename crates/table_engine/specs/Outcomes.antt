-- How a stream over a reader and a writer ends.
use Rattle.std.specs.Prelude.{◌≡◌, ◌⊎◌, ℕ, List, Option, Result, Ok, Err}
use Rattle.std.specs.Io.KnownBytes.{Appends, Consumes, IsAtEnd}
use Rattle.table_engine.specs.Devices.{AppendsFront, raised, raised_by}
use Rattle.table_engine.specs.declared.sink.Sink.{Sink}
use Rattle.table_engine.specs.declared.source.Source.{Source}
use Rattle.table_engine.specs.declared.stopped.Stopped.{Stopped}
use Rattle.table_engine.specs.declared.stopped.Stopped.TheVariants.{Memory, Read, Refused, Write}

-- It was read to its end, and what its bytes are told is written.
pub record IsServed {R W : Type 0} (remaining : R → Option (List ℕ)) (contents : W → Option (List ℕ)) (source source' : Source R) (sink sink' : Sink W) (tells : List ℕ → List ℕ → Type 0) : Type 0 where
  pub bytes : List ℕ
  pub read : Consumes (remaining source.inner) (remaining source'.inner) bytes
  pub ended : IsAtEnd (remaining source'.inner)
  pub text : List ℕ
  pub is_told : tells bytes text
  pub written : Appends (contents sink.inner) (contents sink'.inner) text
  pub ends : source'.ends ≡ raised source.ends
  pub all_read : source'.failures ≡ source.failures
  pub all_written : sink'.failures ≡ sink.failures

-- A read failed, or as many reads were made as there may be. What the bytes before are told is written.
pub record IsUnread {R W : Type 0} (remaining : R → Option (List ℕ)) (contents : W → Option (List ℕ)) (source source' : Source R) (sink sink' : Sink W) (tells : List ℕ → List ℕ → Type 0) : Type 0 where
  pub bytes : List ℕ
  pub read : Consumes (remaining source.inner) (remaining source'.inner) bytes
  pub text : List ℕ
  pub is_told : tells bytes text
  pub written : Appends (contents sink.inner) (contents sink'.inner) text
  pub cause : (source'.failures ≡ raised source.failures) ⊎ (source'.reads ≡ raised_by 4294967295 source.reads)
  pub all_written : sink'.failures ≡ sink.failures

-- A write failed. A front of what the bytes are told is written.
pub record IsUnwritten {R W : Type 0} (remaining : R → Option (List ℕ)) (contents : W → Option (List ℕ)) (source source' : Source R) (sink sink' : Sink W) (tells : List ℕ → List ℕ → Type 0) : Type 0 where
  pub bytes : List ℕ
  pub read : Consumes (remaining source.inner) (remaining source'.inner) bytes
  pub text : List ℕ
  pub is_told : tells bytes text
  pub written : AppendsFront (contents sink.inner) (contents sink'.inner) text
  pub all_read : source'.failures ≡ source.failures
  pub cause : sink'.failures ≡ raised sink.failures

-- A line was refused. A front of what the bytes before are told is written.
pub record IsRefused {R W : Type 0} (remaining : R → Option (List ℕ)) (contents : W → Option (List ℕ)) (source source' : Source R) (sink sink' : Sink W) (tells : List ℕ → List ℕ → Type 0) : Type 0 where
  pub bytes : List ℕ
  pub read : Consumes (remaining source.inner) (remaining source'.inner) bytes
  pub text : List ℕ
  pub is_told : tells bytes text
  pub written : AppendsFront (contents sink.inner) (contents sink'.inner) text
  pub all_read : source'.failures ≡ source.failures
  pub all_written : sink'.failures ≡ sink.failures

-- Memory was refused before anything was read.
pub record IsUntouched {R W : Type 0} (source source' : Source R) (sink sink' : Sink W) : Type 0 where
  pub unread : source' ≡ source
  pub unwritten : sink' ≡ sink

-- why a part of a stream was not served whole
abbrev pub Stops : {F : Type 0} → Result (Unit {0}) (Stopped F) → Type 0 → (F → Type 0) → Type 0
Stops (Ok x) unwritten refused = Unit {0}
Stops (Err Write) unwritten refused = unwritten
Stops (Err (Refused why)) unwritten refused = refused why
Stops (Err Read) unwritten refused = ⊥
Stops (Err Memory) unwritten refused = ⊥

-- the failures of the writer of a part that ended so
abbrev pub failures_after_stop : {F : Type 0} → Result (Unit {0}) (Stopped F) → ℕ → ℕ
failures_after_stop (Err Write) count = raised count
failures_after_stop (Err (Refused why)) count = count
failures_after_stop (Err Read) count = count
failures_after_stop (Err Memory) count = count
failures_after_stop (Ok x) count = count
