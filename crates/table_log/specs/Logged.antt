-- A table with its log.
use Rattle.std.specs.Prelude.{◌≡◌, ◌⊎◌, ℕ, ◌+◌, ◌≤◌, List, ◌++◌, codes, length, Bool, true, false, IsSome, Option, Some}
use Rattle.std.specs.Io.KnownBytes.{append_known}
use Rattle.std.specs.Option.{option_map_or}
use Rattle.command_text.specs.Text.{command_text}
use Rattle.table_cmd.specs.declared.command.Command.{Command}
use Rattle.table_engine.specs.Devices.{IsFront, raised}
use Rattle.table_reply.specs.Answer.{answer_text}
use Rattle.table_schema.specs.Shape.{TableShape}
use Rattle.table_step.specs.Step.{TableState, memory_line, new_table, step_of}
use Rattle.table_log.specs.Log.{IsLog, after_command, replayed}

-- what a clause sees of it: the declaration of the empty table that the log begins with, unless it begins with another table, the table, the
-- log's bytes where they are known, how many they are and how many of them are synced, how often the disk failed, and whether the log is over
pub record LogData : Type 0 where
  pub declared : Option TableShape
  pub table : TableState
  pub bytes : Option (List ℕ)
  pub size : ℕ
  pub synced : ℕ
  pub failures : ℕ
  pub is_over : Bool

-- The table is what the log leaves of the one that it begins with, until the log is over. What the log has then still loads.
pub record IsKept (log : LogData) : Type 0 where
  pub start : TableState
  pub is_empty : (shape : TableShape) → log.declared ≡ Some shape → start ≡ new_table shape
  pub stands : (bytes : List ℕ) → log.bytes ≡ Some bytes → log.is_over ≡ false → IsLog start bytes log.table
  pub loads : (bytes : List ℕ) → log.bytes ≡ Some bytes → IsSome (replayed start bytes)

-- The bytes, where they are known, are whole lines that leave the table on the one that they begin with: the empty one, where it is declared.
pub record LeavesTable (declared : Option TableShape) (bytes : Option (List ℕ)) (table : TableState) : Type 0 where
  pub start : TableState
  pub is_empty : (shape : TableShape) → declared ≡ Some shape → start ≡ new_table shape
  pub stands : (known : List ℕ) → bytes ≡ Some known → IsLog start known table

-- ---- calls

-- the line of a write: its canonical text, and a newline
abbrev pub log_line : Command → List ℕ
log_line command = command_text command ++ codes "\n"

-- a log that has a further line, and the table that it leaves
abbrev pub with_line : LogData → List ℕ → TableState → LogData
with_line log line table =
    record { declared = log.declared; table = table; bytes = append_known log.bytes line; size = log.size + length line; synced = log.synced; failures = log.failures; is_over = log.is_over }

-- the log after a command: an accepted write is a line more
abbrev pub log_after : LogData → Command → LogData
log_after log command = option_map_or (with_line log (log_line command)) (after_command log.table command) log

-- the line of the answer, after which the log has the write; or the memory line, and nothing changed
abbrev pub Answers : LogData → Command → List ℕ → LogData → Type 0
Answers old command text new =
    ((text ≡ memory_line) × (new ≡ old)) ⊎ ((text ≡ answer_text (step_of old.table command).answer) × (new ≡ log_after old command))

-- the same, appended to what was told before
abbrev pub AppendsAnswer : LogData → Command → List ℕ → List ℕ → LogData → Type 0
AppendsAnswer old command told_before told new = (text : List ℕ) × (told ≡ told_before ++ text) × Answers old command text new

-- the line of a read's answer, or the memory line, appended to what was told before
abbrev pub Tells : LogData → Command → List ℕ → List ℕ → Type 0
Tells log command told_before told = (told ≡ told_before ++ memory_line) ⊎ (told ≡ told_before ++ answer_text (step_of log.table command).answer)

-- The command is an accepted write, and the disk failed before its line was appended whole.
pub record Fails (old : LogData) (command : Command) (new : LogData) : Type 0 where
  pub front : List ℕ
  pub is_front : IsFront front (log_line command)
  pub write : after_command old.table command ≡ Some new.table
  pub declared : new.declared ≡ old.declared
  pub bytes : new.bytes ≡ append_known old.bytes front
  pub synced : new.synced ≡ old.synced
  pub failures : new.failures ≡ raised old.failures
  pub over : new.is_over ≡ true

-- A log that is over stays as it is. Otherwise the disk failed.
abbrev pub Stops : LogData → Command → LogData → Type 0
Stops old command new = ((old.is_over ≡ true) × (new ≡ old)) ⊎ Fails old command new

-- the log after a sync, and after one that failed
abbrev pub synced_log : LogData → LogData
synced_log log =
    record { declared = log.declared; table = log.table; bytes = log.bytes; size = log.size; synced = log.size; failures = log.failures; is_over = log.is_over }

abbrev pub failed_log : LogData → LogData
failed_log log =
    record { declared = log.declared; table = log.table; bytes = log.bytes; size = log.size; synced = log.synced; failures = raised log.failures; is_over = true }

-- no fewer bytes are synced, and nothing else is changed
abbrev pub IsSyncedOn : LogData → LogData → Type 0
IsSyncedOn old new = (old.synced ≤ new.synced) × (new ≡ record old { synced = new.synced })
