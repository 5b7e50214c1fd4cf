use Rattle.std.proofs.Common.{◌≡◌}
use Rattle.node_store.specs.ByNode.{column_of, contents}
use Rattle.row_index.specs.Spelled as rows
use Rattle.any_index.specs.Marks.{matches_in, lowest_mark}
use Rattle.any_index.specs.Spelled.{KeepsOthers}
use Rattle.any_index.proofs.Marking.{Walked, left_of}
use Rattle.any_index.proofs.marks.mark_each.Given as goal

abbrev pub invariant-loop-at : goal.invariant-loop-at
invariant-loop-at g l = record {
  walked : Walked (matches_in g.E.Extract l.by l.fn.store l.keys l.probe) (rows.spelled (column_of l.fn.store) l.row) (column_of l.store (rows.col_of l.row)) l.at;
  marks : rows.HasMarks (column_of l.store) l.row l.low;
  low : l.low ≡ lowest_mark (column_of l.store (rows.col_of l.row)) (rows.spelled (column_of l.fn.store) l.row);
  others : KeepsOthers (column_of l.fn.store) (column_of l.store) (rows.col_of l.row);
  contents : contents l.store ≡ contents l.fn.store;
}

abbrev pub decreases-loop-at : goal.decreases-loop-at
decreases-loop-at g l = left_of (matches_in g.E.Extract l.by l.fn.store l.keys l.probe) l.at
