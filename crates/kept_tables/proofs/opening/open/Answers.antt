use Rattle.std.proofs.Common.{◌≡◌, ap, Option, Some, None}
use Rattle.table_log.specs.Logged.{LeavesTable}
use Rattle.table_schema.specs.Shape.{TableShape}
use Rattle.table_step.specs.Step.{TableState, new_table}
use Rattle.kept_tables.proofs.opening.open.Goals as goal

-- a log whose bytes are not known
unknown : (declared : Option TableShape) (table : TableState) → LeavesTable declared None table
unknown None table = record { start = table; is_empty = λ shape is. cc; stands = λ known is. cc }
unknown (Some shape) table = record { start = new_table shape; is_empty = λ other is. let same : shape ≡ other = cc in ap new_table same; stands = λ known is. cc }

pub on-requires : goal.on-requires
on-requires c = unknown c.if-about.begins_empty c.args.ready.decided.table
