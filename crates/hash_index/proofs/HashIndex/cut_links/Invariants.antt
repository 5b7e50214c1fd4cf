use Rattle.std.proofs.Common.{◌≡◌, length, not}
use Rattle.node_store.specs.Column.{KeepsOthers}
use Rattle.node_store.specs.ByNode.{column_of, contents}
use Rattle.hash_index.specs.Spelled.{col_of}
use Rattle.hash_index.specs.Split.{goes}
use Rattle.hash_index.specs.Walks.{rest_of, Ends}
use Rattle.hash_index.proofs.Cutting.{Halves}
use Rattle.node_store.specs.Store.{age_of}
use Rattle.hash_index.proofs.HashIndex.cut_links.Given as goal

abbrev pub invariant-loop-at : goal.invariant-loop-at
invariant-loop-at g l = record {
  ends : Ends (column_of l.fn.store) l.self l.at;
  halves : Halves (age_of l.fn.store) (column_of l.fn.store (col_of l.self)) (column_of l.store (col_of l.self)) (goes (column_of l.fn.store (col_of l.self)) l.self) (λ n. not (goes (column_of l.fn.store (col_of l.self)) l.self n))
      (rest_of (column_of l.fn.store) l.self l.fn.at) (rest_of (column_of l.fn.store) l.self l.at) l.moved l.stay;
  others : KeepsOthers (column_of l.fn.store) (column_of l.store) (col_of l.self);
  contents : contents l.store ≡ contents l.fn.store;
}

abbrev pub decreases-loop-at : goal.decreases-loop-at
decreases-loop-at g l = length (rest_of (column_of l.fn.store) l.self l.at)
