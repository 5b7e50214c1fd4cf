use Rattle.std.proofs.Common.{◌≡◌, drop}
use Rattle.tables_c.specs.Cells.{spelled}
use Rattle.tables_c.proofs.Spelled.{after}
use Rattle.tables_c.proofs.cells.read_cells.Given as goal

abbrev pub invariant-loop-cell : goal.invariant-loop-cell
invariant-loop-cell l = after l.read.items (spelled (drop l.cell-index l.cells) l.rest) ≡ spelled l.cells l.texts
