use Rattle.std.proofs.Common.{◌≡◌, drop}
use Rattle.tables_c.specs.Cells.{behind}
use Rattle.tables_c.proofs.cells.behind.Given as goal

abbrev pub invariant-loop-cell : goal.invariant-loop-cell
invariant-loop-cell l = behind (drop l.cell-index l.cells) l.rest ≡ behind l.cells l.texts
