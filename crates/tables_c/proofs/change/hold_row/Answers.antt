use Rattle.std.proofs.Common.{sym}
use Rattle.tables_c.proofs.Holding.{none_held}
use Rattle.tables_c.proofs.change.hold_row.Goals as goal

pub returns-then-columns-cells : goal.returns-then-columns-cells
returns-then-columns-cells c = sym (none_held c.args.columns.now c.args.cells.now c.if-columns-cells.true)
