-- What is left of the bytes of a disk.
use Rattle.std.specs.Prelude.{codes, ◌≡◌, ℕ, ◌+◌, ◌-◌, ◌<◌, ◌≤◌, List, [], ◌∷◌, ◌++◌, length, take, drop, Option, Some, None, Result, Ok, Err}
use Rattle.command_text.specs.Line.{IsOneLine}
use Rattle.table_cmd.specs.declared.command.Command.{Command}
use Rattle.table_log.specs.declared.disk.Disk.{Ghosts}
use Rattle.table_state.specs.declared.fault.StateWhy.{StateWhy}
use Rattle.table_state.specs.declared.source.Source.{Source}
use Rattle.table_schema.specs.Shape.{TableShape}
use Rattle.table_state.specs.Standing.{CanStand}
use Rattle.table_state.specs.State.{line_of, state_text}
use Rattle.table_terms.specs.Table.{IsOfSameTable, TableState}
use Rattle.table_state.specs.Writing.{IsInterruption, failures_of_state}

-- what was read of them and not yet taken
abbrev pub held : Source → List ℕ
held source = drop source.start (take source.end source.piece.items)

-- and what was not read
abbrev pub left_of : List ℕ → Source → List ℕ
left_of bytes source = held source ++ drop source.at bytes

-- its places are within the bytes of the disk, and of its piece
pub record IsWithin (size : ℕ) (source : Source) : Type 0 where
  pub counted : source.size ≡ size
  pub at : source.at ≤ size
  pub start : source.start ≤ source.end
  pub end : source.end ≤ length source.piece.items
  pub room : 0 < length source.piece.items

-- Whatever is told of a reading, the disk is as it was but for its failures, and the source has places on it.
pub record ReadsOn {D T : Type 0} (X : Ghosts D) (old new : D) (source : Source) (result : Result T StateWhy) : Type 0 where
  pub within : IsWithin (X.size new) source
  pub contents : X.contents new ≡ X.contents old
  pub size : X.size new ≡ X.size old
  pub synced : X.synced new ≡ X.synced old
  pub failures : X.failures new ≡ failures_of_state result (X.failures old)

-- how many bytes are not yet taken
abbrev pub unread : Source → ℕ
unread source = (source.end - source.start) + (source.size - source.at)

-- a text was taken off the front
abbrev pub Takes : Option (List ℕ) → Source → List ℕ → Source → Type 0
Takes contents old text new = (bytes : List ℕ) → contents ≡ Some bytes → left_of bytes old ≡ text ++ left_of bytes new

-- bytes of one line were taken onto the line, off the front of those that were read
pub record TakesRun (old new : Source) : Type 0 where
  pub run : List ℕ
  pub line : new.line.items ≡ old.line.items ++ run
  pub held : held old ≡ run ++ held new
  pub one_line : IsOneLine run

-- the first byte was taken, or there is none
abbrev pub TakesByte : Option (List ℕ) → Source → Option ℕ → Source → Type 0
TakesByte contents old (Some byte) new = Takes contents old (byte ∷ []) new
TakesByte contents old None new = (bytes : List ℕ) → contents ≡ Some bytes → (left_of bytes old ≡ []) × (left_of bytes new ≡ [])

-- what was read is this, unless memory was refused or the disk failed
abbrev pub Finds : {T X : Type 0} → (T → X) → Result T StateWhy → X → Type 0
Finds value (Ok x) y = value x ≡ y
Finds value (Err why) y = IsInterruption why

-- where the text of something stands in front that fits, it is found
abbrev pub Seeks : {T X : Type 0} → Option (List ℕ) → Source → (X → List ℕ) → (X → Type 0) → (T → X) → Result T StateWhy → Type 0
Seeks {T} {X} contents source text Fits value result =
    (x : X) (bytes rest : List ℕ) → contents ≡ Some bytes → Fits x → left_of bytes source ≡ text x ++ rest → Finds value result x

-- the command was read of its line
abbrev pub IsReadOf : Command → List ℕ → Result Command StateWhy → Type 0
IsReadOf command line (Ok read) = (read ≡ command) × (line ++ codes "\n" ≡ line_of command)
IsReadOf command line (Err why) = IsInterruption why

-- Where the state of a table of this declaration stands on a disk, that table is read: no such text is refused, and two tables
-- of one text are one.
abbrev pub Recalls : Option (List ℕ) → TableShape → Result TableState StateWhy → Type 0
Recalls contents shape result =
    (t : TableState) → CanStand t → IsOfSameTable t.shape shape → contents ≡ Some (state_text t) → Finds (λ table. table) result t
