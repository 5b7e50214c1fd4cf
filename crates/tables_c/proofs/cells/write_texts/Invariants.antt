use Rattle.std.proofs.Common.{◌≡◌, ◌++◌, drop, length, take}
use Rattle.tables_c.specs.Cells.{all_texts}
use Rattle.tables_c.proofs.cells.write_texts.Given as goal

abbrev pub invariant-loop-cell : goal.invariant-loop-cell
invariant-loop-cell l = (l.begin ≡ length (all_texts (take l.cell-index l.row))) × (l.texts ≡ all_texts (take l.cell-index l.row) ++ drop l.begin l.fn.texts)
