use Rattle.node_store.specs.ByNode.{column_of}
use Rattle.node_store.specs.Store.{age_of}
use Rattle.seq_index.proofs.Laws as chains
use Rattle.row_index.proofs.Laws as rows
use Rattle.hash_index.proofs.Laws as buckets
use Rattle.index_tests.proofs.Ordered.{tree_empty}
use Rattle.index_tests.proofs.columns.eight_indices.Goals as goal

pub returns : goal.returns
returns c = λ s. (
  c.new.ensures.col,
  chains.IsSound_from (column_of s) _ _ (c.new.ensures.empty (column_of s)),
  (
    c.new-2.ensures.col,
    chains.IsSound_from (column_of s) _ _ (c.new-2.ensures.empty (column_of s)),
    (
      c.new-3.ensures.col,
      rows.IsSound_from (column_of s) _ _ (c.new-3.ensures.empty (column_of s)),
      (
        c.new-4.ensures.col,
        rows.IsSound_from (column_of s) _ _ (c.new-4.ensures.empty (column_of s)),
        (
          c.new-5.ensures.col,
          tree_empty s c.new-5.result (c.new-5.ensures.empty (column_of s)),
          (
            c.new-6.ensures.col,
            tree_empty s c.new-6.result (c.new-6.ensures.empty (column_of s)),
            (
              c.new-7.ensures.col,
              buckets.IsSound_from (column_of s) _ _ (c.new-7.ensures.empty (age_of s) (column_of s)),
              (c.new-8.ensures.col, buckets.IsSound_from (column_of s) _ _ (c.new-8.ensures.empty (age_of s) (column_of s)), tt),
            ),
          ),
        ),
      ),
    ),
  ),
)
