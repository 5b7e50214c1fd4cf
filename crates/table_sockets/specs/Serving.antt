-- What the threads of a service leave.
use Rattle.std.specs.Prelude.{◌≡◌, ◌<◌, ◌⊎◌, ℕ, ⊤, List, [], ◌∷◌, length, Option, None, Some, Result, Ok, Err}
use Rattle.std.specs.Io.KnownBytes.{Appends, Consumes, IsAtEnd}
use Rattle.table_engine.specs.Devices.{AppendsFront}
use Rattle.table_engine.specs.Whole.{lines_of}
use Rattle.shared_tables.specs.Hears.{SharedData}
use Rattle.shared_tables.specs.Pass.{PassData}
use Rattle.shared_tables.specs.Serving.{HearsEnded, HearsFront, HearsLines, RefusesNext}
use Rattle.shared_tables.specs.declared.fault.ServeFault.{ServeFault}
use Rattle.shared_tables.specs.declared.fault.ServeFault.TheVariants as fault
use Rattle.table_sockets.specs.Accepting.{Accepting}
use Rattle.table_sockets.specs.End.{end_after, later}
use Rattle.table_sockets.specs.declared.end.End.{End}
use Rattle.table_sockets.specs.declared.end.End.TheVariants.{Fine, Memory, Listen, Mismatch}

-- ---- connections

-- Bytes came of a connection, which are told a text, and this is written. Input and output are the bytes to come and those written, where they are known.
pub record Talk (input output : Option (List ℕ)) (is_left : Option (List ℕ) → Type 0) (writes : Option (List ℕ) → Option (List ℕ) → List ℕ → Type 0)
    (tells : List ℕ → List ℕ → Type 0) : Type 0 where
  pub bytes : List ℕ
  pub rest : Option (List ℕ)
  pub read : Consumes input rest bytes
  pub left : is_left rest
  pub text : List ℕ
  pub is_told : tells bytes text
  pub sent : Option (List ℕ)
  pub written : writes output sent text

-- How the serving of a connection leaves the pass: all lines were answered, or those up to a fault. Nothing was where memory was refused.
abbrev pub LeavesPass : SharedData → Option (List ℕ) → Option (List ℕ) → PassData → PassData → Result (Unit {0}) ServeFault → Type 0
LeavesPass shared input output pass pass' (Ok _) = Talk input output IsAtEnd Appends (λ bytes text. HearsLines shared pass (lines_of bytes) text pass')
LeavesPass shared input output pass pass' (Err fault.Read) =
    Talk input output (λ _. ⊤) Appends (λ bytes text. (begun : List ℕ) × HearsEnded shared pass bytes begun text pass')
LeavesPass shared input output pass pass' (Err fault.Write) = Talk input output (λ _. ⊤) AppendsFront (λ bytes text. HearsFront shared pass bytes text pass')
LeavesPass shared input output pass pass' (Err fault.Memory) = pass' ≡ pass
LeavesPass shared input output pass pass' (Err (fault.Call why)) =
    Talk input output (λ _. ⊤) AppendsFront (λ bytes text. RefusesNext shared pass bytes text pass' why)

-- ---- one thread

-- how far a thread is: what it has accepted, and its pass
pub record Stand (T : Type 0) : Type 0 where
  pub turn : T
  pub pass : PassData

-- A connection was accepted and served, and that ends the thread so, if it does.
pub record Serves {T I O : Type 0} (known : Accepting T I O) (shared : SharedData) (before after : Stand T) (end : Option End) : Type 0 where
  pub input : I
  pub output : O
  pub accepted : known.accepted before.turn input output after.turn
  pub result : Result (Unit {0}) ServeFault
  pub left : LeavesPass shared (known.remaining input) (known.contents output) before.pass after.pass result
  pub ended : end_after result ≡ end

-- The thread goes on to the next connection, or ends.
abbrev pub GoesOn : {T I O : Type 0} → Accepting T I O → SharedData → Stand T → Stand T → Option End → Type 0
GoesOn known shared before after None = Serves known shared before after None
GoesOn known shared before after (Some Fine) = ⊥
GoesOn known shared before after (Some Memory) = Serves known shared before after (Some Memory)
GoesOn known shared before after (Some Listen) = known.refused before.turn after.turn × (after.pass ≡ before.pass)
GoesOn known shared before after (Some Mismatch) = Serves known shared before after (Some Mismatch)

-- Connections are accepted and served one after another, each of which leaves the thread so far.
abbrev pub ServesEach : {T I O : Type 0} → Accepting T I O → SharedData → Stand T → List (Stand T) → Stand T → Type 0
ServesEach known shared before [] after = after ≡ before
ServesEach known shared before (next ∷ stands) after = Serves known shared before next None × ServesEach known shared next stands after

-- How a thread ends after so many connections of those that it was to serve. One that could not be started has served none.
abbrev pub EndsAfter : {T I O : Type 0} → Accepting T I O → SharedData → ℕ → ℕ → Stand T → Stand T → End → Type 0
EndsAfter known shared each count before after Fine = (count ≡ each) × (after ≡ before)
EndsAfter known shared each count before after Memory =
    ((count ≡ 0) × (after ≡ before)) ⊎ ((count < each) × GoesOn known shared before after (Some Memory))
EndsAfter known shared each count before after Listen = (count < each) × GoesOn known shared before after (Some Listen)
EndsAfter known shared each count before after Mismatch = (count < each) × GoesOn known shared before after (Some Mismatch)

-- What a thread leaves of its pass, and how it ends.
pub record Leaves {T I O : Type 0} (known : Accepting T I O) (shared : SharedData) (each : ℕ) (pass pass' : PassData) (end : End) : Type 0 where
  pub first : T
  pub begun : known.begun first
  pub stands : List (Stand T)
  pub before : Stand T
  pub served : ServesEach known shared (record { turn = first; pass = pass }) stands before
  pub last : T
  pub ended : EndsAfter known shared each (length stands) before (record { turn = last; pass = pass' }) end

-- ---- all threads

-- each leaves its pass so, and ends so
abbrev pub AllLeave : {T I O : Type 0} → Accepting T I O → SharedData → ℕ → List PassData → List PassData → List End → Type 0
AllLeave known shared each [] [] [] = ⊤
AllLeave known shared each (pass ∷ passes) (pass' ∷ passes') (end ∷ ends) =
    Leaves known shared each pass pass' end × AllLeave known shared each passes passes' ends
AllLeave known shared each _ _ _ = ⊥

-- the latest of several ends, and of this one
abbrev pub latest : End → List End → End
latest end [] = end
latest end (next ∷ ends) = latest (later end next) ends

-- The threads leave these passes, and their latest end is this one.
pub record AreServed {T I O : Type 0} (known : Accepting T I O) (shared : SharedData) (each : ℕ) (passes passes' : List PassData) (end : End) : Type 0 where
  pub ends : List End
  pub leave : AllLeave known shared each passes passes' ends
  pub worst : end ≡ latest Fine ends
