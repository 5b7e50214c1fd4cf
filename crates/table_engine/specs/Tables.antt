-- One line on the tables.
use Rattle.std.specs.Prelude.{◌≡◌, ◌⊎◌, ℕ, List, ◌++◌, Option, Result, Ok, Err, slice_get, slice_set, position, bytes_eq}
use Rattle.std.specs.Option.{option_map_or}
use Rattle.table_cmd.specs.declared.command.Command.{Command}
use Rattle.command_lines.specs.declared.fault.CommandFault.{CommandFault}
use Rattle.command_lines.specs.declared.fault.CommandFault.TheVariants as command_faults
use Rattle.table_reply.specs.declared.fault.Fault.{Fault}
use Rattle.table_reply.specs.declared.fault.Fault.TheVariants as faults
use Rattle.command_lines.specs.Meaning.{meaning}
use Rattle.table_reply.specs.Answer.{Answer, fault, answer_text}
use Rattle.table_cmd.specs.Command.{table_in}
use Rattle.table_step.specs.Step.{TableState, Step, step_of, memory_line}
use Rattle.table_engine.specs.Lines.{Unfinished}
use Rattle.table_engine.specs.Stream.{TellsLine}

-- what a line is answered, and the tables after it
pub record Carried : Type 0 where
  pub answer : Answer
  pub tables : List TableState

abbrev pub refused : List TableState → Fault → Carried
refused tables why = record { answer = fault why; tables = tables }

-- the place of the first table of a name
abbrev pub table_at : List TableState → List ℕ → Option ℕ
table_at tables name = position (λ t. bytes_eq t.shape.name name) tables

-- the step of the table at this place; the others are as before
abbrev pub stepped : List TableState → ℕ → Step → Carried
stepped tables place step = record { answer = step.answer; tables = slice_set tables place step.table }

-- a command at a place, and at the table that it names
abbrev pub carried_at : List TableState → Command → ℕ → Carried
carried_at tables command place =
    option_map_or (λ t. stepped tables place (step_of t command)) (slice_get tables place) (refused tables faults.Table)

abbrev pub carried : List TableState → Command → Carried
carried tables command = option_map_or (carried_at tables command) (table_at tables (table_in command)) (refused tables faults.Table)

-- the command that a line means, or its fault
abbrev pub answer_to : List TableState → Result Command CommandFault → Carried
answer_to tables (Ok command) = carried tables command
answer_to tables (Err command_faults.Json) = refused tables faults.Json
answer_to tables (Err command_faults.Command) = refused tables faults.Command
answer_to tables (Err command_faults.Memory) = refused tables faults.Memory

-- the line of this answer and the tables that it leaves, or the memory line and the tables as they were
abbrev pub MayAnswer : List TableState → Carried → List ℕ → List TableState → Type 0
MayAnswer old carried text new = ((text ≡ answer_text carried.answer) × (new ≡ carried.tables)) ⊎ ((text ≡ memory_line) × (new ≡ old))

-- the same, appended to what was told before
abbrev pub Replies : List ℕ → List ℕ → List TableState → List TableState → Carried → Type 0
Replies told_before told old new carried = (text : List ℕ) × (told ≡ told_before ++ text) × MayAnswer old carried text new

-- what a line that is neither blank nor too long is answered
abbrev pub AnswersText : List TableState → List ℕ → List ℕ → List TableState → Type 0
AnswersText old line text new = MayAnswer old (answer_to old (meaning line)) text new

-- what any line is answered
abbrev pub AnswersLine : List TableState → Unfinished → List ℕ → List TableState → Type 0
AnswersLine = TellsLine AnswersText
