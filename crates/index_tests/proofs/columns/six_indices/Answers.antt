use Rattle.node_store.specs.ByNode.{column_of}
use Rattle.seq_index.proofs.Laws as chains
use Rattle.row_index.proofs.Laws as rows
use Rattle.index_tests.proofs.columns.six_indices.Goals as goal

pub returns : goal.returns
returns c = λ s. (
  c.new.ensures.col,
  chains.IsSound_from (column_of s) _ _ (c.new.ensures.empty (column_of s)),
  (
    c.new-2.ensures.col,
    chains.IsSound_from (column_of s) _ _ (c.new-2.ensures.empty (column_of s)),
    (
      c.new-3.ensures.col,
      chains.IsSound_from (column_of s) _ _ (c.new-3.ensures.empty (column_of s)),
      (
        c.new-4.ensures.col,
        chains.IsSound_from (column_of s) _ _ (c.new-4.ensures.empty (column_of s)),
        (
          c.new-5.ensures.col,
          rows.IsSound_from (column_of s) _ _ (c.new-5.ensures.empty (column_of s)),
          (c.new-6.ensures.col, rows.IsSound_from (column_of s) _ _ (c.new-6.ensures.empty (column_of s)), tt),
        ),
      ),
    ),
  ),
)
