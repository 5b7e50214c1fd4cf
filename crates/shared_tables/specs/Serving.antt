-- What a session is told, line by line, by tables behind locks.
use Rattle.std.specs.Prelude.{◌≡◌, ◌⊎◌, ℕ, List, [], ◌∷◌, ◌++◌, Result, Ok, Err}
use Rattle.command_lines.specs.Meaning.{meaning}
use Rattle.command_lines.specs.declared.fault.CommandFault.{CommandFault}
use Rattle.command_lines.specs.declared.fault.CommandFault.TheVariants as command_faults
use Rattle.table_cmd.specs.declared.command.Command.{Command}
use Rattle.table_engine.specs.Lines.{Unfinished}
use Rattle.table_engine.specs.Stream.{RefusesLine}
use Rattle.table_engine.specs.Whole.{TellsLines, as_line, lines_of}
use Rattle.table_reply.specs.Answer.{answer_text, fault}
use Rattle.table_reply.specs.declared.fault.Fault.{Fault}
use Rattle.table_reply.specs.declared.fault.Fault.TheVariants as faults
use Rattle.table_step.specs.Step.{memory_line}
use Rattle.shared_tables.specs.Pass.{PassData}
use Rattle.shared_tables.specs.Hears.{HearsLine, Refuses, SharedData, knows}
use Rattle.shared_tables.specs.declared.fault.CallFault.{CallFault}

-- ---- one line

-- what is told of a line that is no command
abbrev pub unread : CommandFault → Fault
unread command_faults.Json = faults.Json
unread command_faults.Command = faults.Command
unread command_faults.Memory = faults.Memory

-- the answer to the command that a line means, or the line's fault
abbrev pub HearsMeaning : SharedData → PassData → Result Command CommandFault → List ℕ → PassData → Type 0
HearsMeaning shared pass (Ok command) text pass' = knows shared pass × HearsLine shared pass command text pass'
HearsMeaning shared pass (Err why) text pass' = (text ≡ answer_text (fault (unread why))) × (pass' ≡ pass)

-- the same, or the memory line and the pass as it was
abbrev pub MayHear : SharedData → PassData → Result Command CommandFault → List ℕ → PassData → Type 0
MayHear shared pass means text pass' = ((text ≡ memory_line) × (pass' ≡ pass)) ⊎ HearsMeaning shared pass means text pass'

-- the same, of what the line means
abbrev pub HearsText : SharedData → PassData → List ℕ → List ℕ → PassData → Type 0
HearsText shared pass line text pass' = MayHear shared pass (meaning line) text pass'

-- the call of the command that a line means is refused
abbrev pub RefusesMeaning : SharedData → PassData → Result Command CommandFault → CallFault → Type 0
RefusesMeaning shared pass (Ok command) why = Refuses shared pass command why
RefusesMeaning shared pass (Err what) why = ⊥

abbrev pub RefusesText : SharedData → PassData → List ℕ → CallFault → Type 0
RefusesText shared pass line why = RefusesMeaning shared pass (meaning line) why

-- the call is refused of what a whole line means
abbrev pub RefusesWhole : SharedData → PassData → Unfinished → CallFault → Type 0
RefusesWhole shared = RefusesLine (RefusesText shared)

-- ---- the lines of a stream

-- The lines are answered one after another, each from the pass that the one before it left.
abbrev pub HearsLines : SharedData → PassData → List (List ℕ) → List ℕ → PassData → Type 0
HearsLines shared = TellsLines (HearsText shared)

-- The lines of these bytes that a newline ends are answered. After them stands what begins a further one.
pub record HearsEnded (shared : SharedData) (pass : PassData) (bytes begun text : List ℕ) (pass' : PassData) : Type 0 where
  pub ended : List (List ℕ)
  pub lines : lines_of bytes ≡ ended ++ begun ∷ []
  pub heard : HearsLines shared pass ended text pass'

-- The first lines of these bytes are answered.
pub record HearsFront (shared : SharedData) (pass : PassData) (bytes text : List ℕ) (pass' : PassData) : Type 0 where
  pub front : List (List ℕ)
  pub later : List (List ℕ)
  pub lines : lines_of bytes ≡ front ++ later
  pub heard : HearsLines shared pass front text pass'

-- The first lines of these bytes are answered, and the call of the next one is refused.
pub record RefusesNext (shared : SharedData) (pass : PassData) (bytes text : List ℕ) (pass' : PassData) (why : CallFault) : Type 0 where
  pub front : List (List ℕ)
  pub line : List ℕ
  pub later : List (List ℕ)
  pub lines : lines_of bytes ≡ front ++ line ∷ later
  pub heard : HearsLines shared pass front text pass'
  pub refused : RefusesWhole shared pass' (as_line line) why
