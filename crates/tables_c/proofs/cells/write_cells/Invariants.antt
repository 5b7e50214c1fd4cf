use Rattle.std.proofs.Common.{◌≡◌, ◌++◌, drop, map, take}
use Rattle.tables_c.specs.Cells.{cell_told}
use Rattle.tables_c.proofs.cells.write_cells.Given as goal

abbrev pub invariant-loop-place : goal.invariant-loop-place
invariant-loop-place l = l.cells ≡ map cell_told (take l.place l.row) ++ drop l.place l.fn.cells
