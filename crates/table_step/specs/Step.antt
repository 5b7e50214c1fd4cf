-- One command on one table.
use Rattle.std.specs.Prelude.{if◌then◌else◌, bytes_eq}
use Rattle.table_changes.specs.Change.{change_step, is_change}
use Rattle.table_cmd.specs.Command.{table_in}
use Rattle.table_cmd.specs.declared.command.Command.{Command}
use Rattle.table_reads.specs.Read.{read_step}
use Rattle.table_reply.specs.declared.fault.Fault.TheVariants as faults
use Rattle.table_terms.specs.Step.{refused}
pub use Rattle.table_terms.specs.Step.{IsShort, Step, Steps, Took, memory_line}
pub use Rattle.table_terms.specs.Table.{IsOfSameTable, TableState, new_table}

-- a command on the table that it names
abbrev pub step_at : TableState → Command → Step
step_at t command = if is_change command then change_step t command else read_step t command

-- what a command does to a table
unfoldable pub step_of : TableState → Command → Step
step_of t command = if bytes_eq (table_in command) t.shape.name then step_at t command else refused t faults.Table
