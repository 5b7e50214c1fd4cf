-- What a session is told by tables with their logs, each behind a lock.
use Rattle.std.specs.Prelude.{◌≡◌, ◌⊎◌, ℕ, List, [], ◌∷◌, ◌++◌, false, Option, Some, None, Result, Ok, Err, position, bytes_eq}
use Rattle.command_lines.specs.Meaning.{meaning}
use Rattle.command_lines.specs.declared.fault.CommandFault.{CommandFault}
use Rattle.command_lines.specs.declared.fault.CommandFault.TheVariants as command_faults
use Rattle.table_cmd.specs.Command.{table_in}
use Rattle.table_cmd.specs.declared.command.Command.{Command}
use Rattle.table_engine.specs.Stream.{RefusesLine}
use Rattle.table_engine.specs.Whole.{TellsLines, as_line, lines_of}
use Rattle.table_reply.specs.Answer.{answer_text, fault}
use Rattle.table_reply.specs.declared.fault.Fault.{Fault}
use Rattle.table_reply.specs.declared.fault.Fault.TheVariants as faults
use Rattle.table_step.specs.Step.{memory_line}
use Rattle.table_log.specs.Logged.{LogData, Stops}
use Rattle.logged_tables.specs.Found.{IsFound}
use Rattle.logged_tables.specs.Standing.{Carries}
use Rattle.logged_tables.specs.declared.fault.OverAt.{OverAt}
use Rattle.logged_tables.specs.declared.syncing.Syncing.{Syncing}

-- what a clause sees of a session's place: the names of the tables, and when their logs are synced
pub record SeatData : Type 0 where
  pub names : List (List ℕ)
  pub syncing : Syncing

-- the number of the first table of a name
abbrev pub place_of : List (List ℕ) → List ℕ → Option ℕ
place_of names name = position (λ other. bytes_eq other name) names

-- The table of this number, as it was found under its lock: it has the name that the command has, it is what its log leaves, and the
-- log is not over. The command is carried out on it, so that the log it leaves has an accepted write before the answer is told.
pub record HearsTable (names : List (List ℕ)) (place : ℕ) (command : Command) (text : List ℕ) : Type 0 where
  pub number : ℕ
  pub old : LogData
  pub new : LogData
  pub found : IsFound names place number old
  pub named : old.table.shape.name ≡ table_in command
  pub works : old.is_over ≡ false
  pub carried : Carries old command [] text new

-- where a table has the name, and where none has
abbrev pub HearsAt : List (List ℕ) → Option ℕ → Command → List ℕ → Type 0
HearsAt names (Some place) command text = HearsTable names place command text
HearsAt names None command text = text ≡ answer_text (fault faults.Table)

-- the same, or the memory line
abbrev pub HearsCommand : List (List ℕ) → Command → List ℕ → Type 0
HearsCommand names command text = (text ≡ memory_line) ⊎ HearsAt names (place_of names (table_in command)) command text

-- what is told of a line that is no command
abbrev pub unread : CommandFault → Fault
unread command_faults.Json = faults.Json
unread command_faults.Command = faults.Command
unread command_faults.Memory = faults.Memory

-- the answer to the command that a line means, or the line's fault
abbrev pub HearsMeaning : List (List ℕ) → Result Command CommandFault → List ℕ → Type 0
HearsMeaning names (Ok command) text = HearsCommand names command text
HearsMeaning names (Err why) text = text ≡ answer_text (fault (unread why))

-- the same of what a line means, or the memory line
abbrev pub HearsText : List (List ℕ) → List ℕ → List ℕ → Type 0
HearsText names line text = (text ≡ memory_line) ⊎ HearsMeaning names (meaning line) text

-- ---- refusals

-- The table that the command names has this number, and its log is over: it was so before, or the line of an accepted write could
-- not be appended.
pub record IsOver (names : List (List ℕ)) (command : Command) (at : OverAt) : Type 0 where
  pub place : place_of names (table_in command) ≡ Some at.table
  pub number : ℕ
  pub old : LogData
  pub new : LogData
  pub found : IsFound names at.table number old
  pub named : old.table.shape.name ≡ table_in command
  pub stopped : Stops old command new

abbrev pub RefusesMeaning : List (List ℕ) → Result Command CommandFault → OverAt → Type 0
RefusesMeaning names (Ok command) at = IsOver names command at
RefusesMeaning names (Err why) at = ⊥

abbrev pub RefusesText : List (List ℕ) → List ℕ → OverAt → Type 0
RefusesText names line at = RefusesMeaning names (meaning line) at

-- ---- streams

-- what a line is told, where nothing else is known of what answers it
abbrev pub TellsText : List (List ℕ) → Unit {0} → List ℕ → List ℕ → Unit {0} → Type 0
TellsText names before line text after = HearsText names line text

-- why a line is refused, where nothing else is known of what answers it
abbrev pub RefusesTold : List (List ℕ) → Unit {0} → List ℕ → OverAt → Type 0
RefusesTold names before line at = RefusesText names line at

-- the lines are told one after another
abbrev pub HearsLines : List (List ℕ) → List (List ℕ) → List ℕ → Type 0
HearsLines names lines text = TellsLines {S = Unit {0}} (TellsText names) tt lines text tt

-- The lines of these bytes that a newline ends are told. After them stands what begins a further one.
pub record HearsEnded (names : List (List ℕ)) (bytes text : List ℕ) : Type 0 where
  pub ended : List (List ℕ)
  pub begun : List ℕ
  pub lines : lines_of bytes ≡ ended ++ begun ∷ []
  pub heard : HearsLines names ended text

-- The first lines of these bytes are told.
pub record HearsFront (names : List (List ℕ)) (bytes text : List ℕ) : Type 0 where
  pub front : List (List ℕ)
  pub later : List (List ℕ)
  pub lines : lines_of bytes ≡ front ++ later
  pub heard : HearsLines names front text

-- The first lines of these bytes are told, and at the next one a log is over.
pub record StopsNext (names : List (List ℕ)) (bytes text : List ℕ) (at : OverAt) : Type 0 where
  pub front : List (List ℕ)
  pub line : List ℕ
  pub later : List (List ℕ)
  pub lines : lines_of bytes ≡ front ++ line ∷ later
  pub heard : HearsLines names front text
  pub refused : RefusesLine (RefusesTold names) tt (as_line line) at
