-- A buffer with room for an answer.
use Rattle.std.specs.Prelude.{◌≡◌, ◌+◌, ◌<◌, ◌≤◌, length, Result}
use Rattle.std.specs.Borrow.{Fml, MutBor, RestsIfErr}
use Rattle.std.specs.declared.convert.Infallible.{Infallible}
use Rattle.table_reply.specs.Buffer.{Buffer, Keeps}
use Rattle.table_reply.specs.contracts.out.Out.{the_row}
use Rattle.table_reply.specs.declared.out.OutOfRoom.{OutOfRoom}
use Rattle.table_reply.specs.declared.out.TheConstants.{READY_ROOM}
use Rattle.table_reply.specs.declared.ready.Ready.{Ready}
use Rattle.table_reply.specs.declared.ready.Told.{Told}

-- what waits is as it was, and the room is no less
pub record IsMadeReady (old ready : Buffer) : Type 0 where
  pub bytes : ready.bytes ≡ old.bytes
  pub room : old.room ≤ ready.room

-- the buffer is as it was; it has little room, since something waits
pub record IsFull (old new : Buffer) : Type 0 where
  pub unchanged : new ≡ old
  pub room : old.room < READY_ROOM
  pub waits : READY_ROOM ≤ old.room + length old.bytes

-- the buffer ends as what was made ready does; at an `Err` it is full
abbrev pub RestsUnlessReady : MutBor Buffer → Result Ready OutOfRoom → Fml
RestsUnlessReady s result = RestsIfErr the_row s (λ ready. ready.out.ghost_name) result (λ new. IsFull s.now new)

-- the buffer ends as what is ready does
abbrev pub Rests : MutBor Buffer → Result Ready Infallible → Fml
Rests s result = RestsIfErr the_row s (λ ready. ready.out.ghost_name) result (λ _. ⊥)

-- the buffer is the one that was made ready, and keeps its memory
pub record IsBehind {T : Type 0} (ready : Ready) (told : Told T) : Type 0 where
  pub same : told.out.ghost_name ≡ ready.out.ghost_name
  pub kept : Keeps ready.out.now told.out.now
