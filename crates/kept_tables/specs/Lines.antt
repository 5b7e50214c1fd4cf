-- What lines are told by tables with their logs.
use Rattle.std.specs.Prelude.{◌≡◌, ◌⊎◌, ℕ, ◌<◌, List, [], ◌++◌, length, take, Bool, false, true, IsTrue, Option, Some, None, Result, Ok, Err, position, bytes_eq, slice_get, slice_set, slice_index_or}
use Rattle.std.specs.Bool.{MatchBool}
use Rattle.command_lines.specs.Meaning.{meaning}
use Rattle.command_lines.specs.declared.fault.CommandFault.{CommandFault}
use Rattle.command_lines.specs.declared.fault.CommandFault.TheVariants as command_faults
use Rattle.table_changes.specs.Change.{is_change}
use Rattle.table_cmd.specs.Command.{table_in}
use Rattle.table_cmd.specs.declared.command.Command.{Command}
use Rattle.table_engine.specs.Lines.{Cutter, Unfinished, short, has_answer}
use Rattle.table_engine.specs.Run.{ready_room}
use Rattle.table_engine.specs.Stream.{Feeds, RefusesLine, TellsLine}
use Rattle.table_log.specs.Logged.{Answers, LogData, Stops}
use Rattle.table_reply.specs.Answer.{answer_text, fault}
use Rattle.table_reply.specs.Buffer.{Buffer}
use Rattle.table_reply.specs.declared.fault.Fault.{Fault}
use Rattle.table_reply.specs.declared.fault.Fault.TheVariants as faults
use Rattle.table_step.specs.Step.{memory_line, step_of}
use Rattle.kept_tables.specs.declared.stream.Stop.{Stop}
use Rattle.kept_tables.specs.declared.stream.StopWhy.{StopWhy}
use Rattle.kept_tables.specs.declared.stream.StopWhy.TheVariants as whys

-- what a clause sees of tables with one stream of lines: the tables with their logs, the line so far, and whether the log of a line's table was over
pub record KeptData : Type 0 where
  pub tables : List LogData
  pub unfinished : Unfinished
  pub is_over : Bool

-- tables where no log was over
abbrev pub kept_of : List LogData → Cutter → KeptData
kept_of tables cutter = record { tables = tables; unfinished = cutter.unfinished; is_over = false }

-- ---- a line

-- the place of the first table of a name
abbrev pub place_of : List LogData → List ℕ → Option ℕ
place_of tables name = position (λ log. bytes_eq log.table.shape.name name) tables

-- A change is answered once the log has it; a read changes nothing. Either may be told the memory line, and nothing is done.
abbrev pub Hears : LogData → Command → List ℕ → LogData → Type 0
Hears old command text new = MatchBool (is_change command)
    (Answers old command text new)
    ((new ≡ old) × ((text ≡ memory_line) ⊎ (text ≡ answer_text (step_of old.table command).answer)))

-- the table at a place, whose log is not over, hears the command, and the others are as before
abbrev pub TellsAt : List LogData → Option ℕ → Command → List ℕ → List LogData → Type 0
TellsAt olds None command text news = (text ≡ answer_text (fault faults.Table)) × (news ≡ olds)
TellsAt olds (Some place) command text news = (old new : LogData) × (slice_get olds place ≡ Some old) × (old.is_over ≡ false) × Hears old command text new × (news ≡ slice_set olds place new)

-- what is told of a line that is no command
abbrev pub unread : CommandFault → Fault
unread command_faults.Json = faults.Json
unread command_faults.Command = faults.Command
unread command_faults.Memory = faults.Memory

abbrev pub TellsMeaning : List LogData → Result Command CommandFault → List ℕ → List LogData → Type 0
TellsMeaning olds (Ok command) text news = TellsAt olds (place_of olds (table_in command)) command text news
TellsMeaning olds (Err why) text news = (text ≡ answer_text (fault (unread why))) × (news ≡ olds)

-- what a line is told that is neither blank nor too long: the memory line, and nothing is done, or what it means is carried out
abbrev pub TellsText : List LogData → List ℕ → List ℕ → List LogData → Type 0
TellsText olds line text news = ((text ≡ memory_line) × (news ≡ olds)) ⊎ TellsMeaning olds (meaning line) text news

-- ---- a log that is over

-- the log of the table at a place was over, or could not be written
abbrev pub StopsAt : List LogData → Option ℕ → Command → List LogData → Type 0
StopsAt olds None command news = ⊥
StopsAt olds (Some place) command news = (old new : LogData) × (slice_get olds place ≡ Some old) × Stops old command new × (news ≡ slice_set olds place new)

abbrev pub StopsMeaning : List LogData → Result Command CommandFault → List LogData → Type 0
StopsMeaning olds (Ok command) news = StopsAt olds (place_of olds (table_in command)) command news
StopsMeaning olds (Err why) news = ⊥

abbrev pub StopsText : List LogData → List ℕ → List LogData → Type 0
StopsText olds line news = StopsMeaning olds (meaning line) news

-- ---- the line so far

-- The line so far is ended: it is told, or why it is not. Where its log is over the line is gone.
abbrev pub Ended : Result (Unit {0}) StopWhy → KeptData → Buffer → KeptData → Buffer → Type 0
Ended (Ok x) old out new out' = (text : List ℕ) × (out'.bytes ≡ out.bytes ++ text) × TellsLine TellsText old.tables old.unfinished text new.tables × (new.unfinished ≡ short [])
Ended (Err whys.Memory) old out new out' =
    (new.tables ≡ old.tables) × (new.unfinished ≡ old.unfinished) × (out' ≡ out) × IsTrue (has_answer old.unfinished) × (out.room < ready_room)
Ended (Err whys.Over) old out new out' = (out'.bytes ≡ out.bytes) × RefusesLine StopsText old.tables old.unfinished new.tables × (new.unfinished ≡ short [])

abbrev pub is_of_log : StopWhy → Bool
is_of_log whys.Memory = false
is_of_log whys.Over = true

abbrev pub ends_over : Result (Unit {0}) StopWhy → Bool
ends_over (Ok x) = false
ends_over (Err why) = is_of_log why

-- the same, but where a log was over nothing is done
abbrev pub EndsLine : Result (Unit {0}) StopWhy → KeptData → Buffer → KeptData → Buffer → Type 0
EndsLine result old out new out' =
    MatchBool old.is_over ((result ≡ Err whys.Over) × (new ≡ old) × (out' ≡ out)) (Ended result old out new out' × (new.is_over ≡ ends_over result))

-- ---- a piece

-- the lines that these bytes end are told, and what is told waits behind what waited
abbrev pub Feeding : KeptData → Buffer → List ℕ → List LogData → Unfinished → Buffer → Type 0
Feeding old out bytes tables unfinished out' = (text : List ℕ) × Feeds TellsText old.tables old.unfinished bytes text tables unfinished × (out'.bytes ≡ out.bytes ++ text)

-- why the line is not told that the next byte ends
abbrev pub Halts : StopWhy → KeptData → Buffer → List ℕ → KeptData → Buffer → Type 0
Halts whys.Memory old out bytes new out' = Feeding old out bytes new.tables new.unfinished out' × IsTrue (has_answer new.unfinished) × (out'.room < ready_room)
Halts whys.Over old out bytes new out' =
    (mid : List LogData) × (line : Unfinished) × Feeding old out bytes mid line out' × RefusesLine StopsText mid line new.tables × (new.unfinished ≡ short [])

-- all bytes are taken, or those before a newline
abbrev pub Taken : Result (Unit {0}) Stop → List ℕ → KeptData → Buffer → KeptData → Buffer → Type 0
Taken (Ok x) piece old out new out' = Feeding old out piece new.tables new.unfinished out'
Taken (Err stop) piece old out new out' = (stop.taken < length piece) × (slice_index_or piece stop.taken 0 ≡ 10) × Halts stop.why old out (take stop.taken piece) new out'

abbrev pub takes_over : Result (Unit {0}) Stop → Bool
takes_over (Ok x) = false
takes_over (Err stop) = is_of_log stop.why

-- the same, but where a log was over nothing is done
abbrev pub TakesPiece : Result (Unit {0}) Stop → List ℕ → KeptData → Buffer → KeptData → Buffer → Type 0
TakesPiece result piece old out new out' =
    MatchBool old.is_over ((result ≡ Err (record { taken = 0; why = whys.Over })) × (new ≡ old) × (out' ≡ out)) (Taken result piece old out new out' × (new.is_over ≡ takes_over result))
