-- What a fault of the program is told as.
use Rattle.std.specs.Prelude.{ℕ, String}
use Rattle.std.specs.Global.{Global}
use Rattle.checked_disk.specs.declared.fault.RecoverWhy.{RecoverWhy}
use Rattle.checked_disk.specs.declared.fault.RecoverWhy.TheVariants as recovery
use Rattle.checked_log.specs.declared.recovery.Refusal.TheVariants as refusal
use Rattle.keeper_words.specs.declared.asked.When.{When}
use Rattle.keeper_words.specs.declared.asked.When.TheVariants as whens
use Rattle.logged_tables.specs.declared.syncing.Syncing.{Syncing}
use Rattle.logged_tables.specs.declared.syncing.Syncing.TheVariants as syncing
use Rattle.program_words.specs.declared.asked.WordsFault.{WordsFault}
use Rattle.program_words.specs.declared.asked.WordsFault.TheVariants as words
use Rattle.table_engine.specs.Devices.{raised}
use Rattle.table_log.specs.declared.fault.OpenWhy.{OpenWhy}
use Rattle.table_log.specs.declared.fault.OpenWhy.TheVariants as opening
use Rattle.table_schema.specs.declared.fault.SchemaFault.{SchemaFault}
use Rattle.table_schema.specs.declared.fault.SchemaFault.TheVariants as schema
use Rattle.table_keeper.specs.declared.fault.Fault.{Fault}
use Rattle.table_keeper.specs.declared.fault.Fault.TheVariants.{Words, Address, File, Output, Listen, Memory, Schema, Taken, Log, Line, Declared, StateLine, State, Behind, Lacking, Missing, Unwritten, Input, Hurt, Mark, Old, Beside, Filled, Rows, Unaltered}

-- the exit status
abbrev pub status_of : Fault → ℕ
status_of (File path) = 1
status_of Output = 1
status_of Listen = 1
status_of Memory = 1
status_of (Words text) = 2
status_of Address = 2
status_of (Schema fault) = 3
status_of (Declared path) = 3
status_of (Log path) = 5
status_of (Line path number) = 6
status_of (Taken path) = 7
status_of (StateLine path number) = 8
status_of (State path) = 8
status_of (Behind path) = 8
status_of (Lacking path) = 8
status_of (Missing path) = 8
status_of (Unwritten path) = 9
status_of Input = 1
status_of (Hurt path first last) = 6
status_of (Mark path) = 8
status_of (Old path) = 8
status_of (Beside path) = 8
status_of (Filled path) = 8
status_of (Rows why) = 6
status_of (Unaltered why) = 10

-- the fault of words that are not read
abbrev pub of_words : WordsFault → Fault
of_words (words.Words text) = Words text
of_words words.Listen = Address
of_words words.Memory = Memory

-- the fault of a schema that is refused
abbrev pub of_schema : SchemaFault → Fault
of_schema schema.Memory = Memory
of_schema refused = Schema refused

-- when the logs are synced, as it is asked for
abbrev pub asked_syncing : When → Syncing
asked_syncing whens.Each = syncing.Each
asked_syncing whens.Second = syncing.Second
asked_syncing whens.Never = syncing.Never

-- the fault of a log that is not opened
abbrev pub of_opening : OpenWhy → String Global → Fault
of_opening (opening.Line number) path = Line path number
of_opening opening.Memory path = Memory
of_opening opening.Disk path = File path

-- the fault of a log that is not recovered, with the paths of the log and of its mark
abbrev pub of_recovery : RecoverWhy → String Global → String Global → Fault
of_recovery recovery.Memory path mark = Memory
of_recovery recovery.Disk path mark = File path
of_recovery (recovery.Refused (refusal.Hurt whole durable)) path mark = Hurt path (raised whole) durable
of_recovery (recovery.Refused (refusal.Strange number)) path mark = Mark mark
