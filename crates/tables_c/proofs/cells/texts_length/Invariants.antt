use Rattle.std.proofs.Common.{◌≡◌, length, take}
use Rattle.tables_c.specs.Cells.{all_texts}
use Rattle.tables_c.proofs.cells.texts_length.Given as goal

abbrev pub invariant-loop-cell : goal.invariant-loop-cell
invariant-loop-cell l = l.length ≡ length (all_texts (take l.cell-index l.cells))
