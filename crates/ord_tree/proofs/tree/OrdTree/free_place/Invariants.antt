use Rattle.node_store.specs.ByNode.{column_of, record_of}
use Rattle.std.specs.Ordering.{is_lt, is_eq}
use Rattle.ord_tree.specs.Side.{side_of}
use Rattle.ord_tree.specs.Tree.{stored_height}
use Rattle.ord_tree.specs.Spelled.{tree_of}
use Rattle.ord_tree.specs.Digests.{KeepsDigest}
use Rattle.ord_tree.proofs.Below.{AllBelow}
use Rattle.ord_tree.proofs.FreePlaces.{Comes}
use Rattle.ord_tree.proofs.KeySides.{Rises}
use Rattle.ord_tree.proofs.Nearing.{Nears}
use Rattle.ord_tree.proofs.tree.OrdTree.free_place.Given as goal

abbrev pub invariant-loop-at : goal.invariant-loop-at
invariant-loop-at g l =
    let side = side_of (record_of l.store) (λ a. g.E.Extract.order_of l.keys l.self.index a l.row) in
    record {
      nears : Nears g.T.Tally.of (column_of l.store l.self.col) (Rises side) (λ n. is_eq (side n)) (tree_of (column_of l.store) l.self) l.at l.found;
      comes : Comes g.T.Tally.of (column_of l.store l.self.col) (λ n. is_lt (side n)) (tree_of (column_of l.store) l.self) l.at l.last;
      below : AllBelow g.T.Tally.of (column_of l.store l.self.col) (KeepsDigest (g.E.Extract.digest_of l.keys l.self.index) l.store l.self.col) l.at;
    }

abbrev pub decreases-loop-at : goal.decreases-loop-at
decreases-loop-at g l = stored_height (column_of l.store l.self.col) l.at
