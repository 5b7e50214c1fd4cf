use Rattle.node_store.specs.ByNode.{column_of, record_of}
use Rattle.std.specs.Ordering.{is_le}
use Rattle.ord_tree.specs.Tree.{stored_height}
use Rattle.ord_tree.specs.Side.{order_at}
use Rattle.ord_tree.specs.Spelled.{tree_of}
use Rattle.ord_tree.specs.Digests.{KeepsDigest}
use Rattle.ord_tree.proofs.Below.{AllBelow}
use Rattle.ord_tree.proofs.Seeking.{Seeks}
use Rattle.ord_tree.proofs.tree.OrdTree.place_of.Given as goal

abbrev pub invariant-loop-at : goal.invariant-loop-at
invariant-loop-at g l = record {
  seeks : Seeks g.T.Tally.of (λ m. is_le (order_at (record_of l.store) (g.E.Extract.order_of l.keys l.self.index) m l.fn.n)) (tree_of (column_of l.store) l.self) (column_of l.store l.self.col) l.at l.parent l.on_right;
  below : AllBelow g.T.Tally.of (column_of l.store l.self.col) (KeepsDigest (g.E.Extract.digest_of l.keys l.self.index) l.store l.self.col) l.at;
}

abbrev pub decreases-loop-at : goal.decreases-loop-at
decreases-loop-at g l = stored_height (column_of l.store l.self.col) l.at
