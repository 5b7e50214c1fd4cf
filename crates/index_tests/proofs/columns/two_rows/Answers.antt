use Rattle.node_store.specs.ByNode.{column_of}
use Rattle.row_index.proofs.Laws as rows
use Rattle.index_tests.proofs.columns.two_rows.Goals as goal

pub returns : goal.returns
returns c = λ s. (
  c.new.ensures.col,
  rows.IsSound_from (column_of s) _ _ (c.new.ensures.empty (column_of s)),
  (c.new-2.ensures.col, rows.IsSound_from (column_of s) _ _ (c.new-2.ensures.empty (column_of s)), tt),
)
