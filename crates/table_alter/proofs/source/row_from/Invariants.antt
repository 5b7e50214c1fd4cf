use Rattle.std.proofs.Common.{◌≡◌, map, take}
use Rattle.table_alter.specs.Sources.{cell_from}
use Rattle.table_alter.proofs.source.row_from.Given as goal

abbrev pub invariant-loop-source : goal.invariant-loop-source
invariant-loop-source l = l.all.items ≡ map (cell_from l.cells) (take l.source-index l.sources)
