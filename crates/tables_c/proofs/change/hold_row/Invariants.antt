use Rattle.std.proofs.Common.{◌≡◌, drop}
use Rattle.tables_c.specs.Cells.{hold_row}
use Rattle.tables_c.proofs.change.hold_row.Given as goal

abbrev pub invariant-loop-place : goal.invariant-loop-place
invariant-loop-place l = hold_row (drop l.place l.columns) (drop l.place l.cells) ≡ hold_row l.columns l.cells
