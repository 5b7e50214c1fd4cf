use Rattle.std.proofs.Common.{◌+◌, ◌≤◌}
use Rattle.node_store.specs.ByNode.{column_of, record_of}
use Rattle.ord_tree.specs.Side.{side_of}
use Rattle.ord_tree.specs.Seek.{is_sought}
use Rattle.ord_tree.specs.Tree.{height, stored_height}
use Rattle.ord_tree.specs.Spelled.{tree_of}
use Rattle.ord_tree.specs.Digests.{KeepsDigest}
use Rattle.ord_tree.proofs.Below.{AllBelow}
use Rattle.ord_tree.proofs.Nearing.{Nears}
use Rattle.ord_tree.proofs.KeySides.{Rises}
use Rattle.ord_tree.proofs.tree.OrdTree.descend.Given as goal

abbrev pub invariant-loop-at : goal.invariant-loop-at
invariant-loop-at g l =
    let side = side_of (record_of l.store) (λ a. g.E.Extract.probe_order_of l.keys l.self.index a l.probe) in
    record {
      nears : Nears g.T.Tally.of (column_of l.store l.self.col) (Rises side) (λ n. is_sought g.S.Sought.which (side n)) (tree_of (column_of l.store) l.self) l.at l.found;
      below : AllBelow g.T.Tally.of (column_of l.store l.self.col) (KeepsDigest (g.E.Extract.digest_of l.keys l.self.index) l.store l.self.col) l.at;
      few : l.comparisons + stored_height (column_of l.store l.self.col) l.at ≤ height (tree_of (column_of l.store) l.self);
    }

abbrev pub decreases-loop-at : goal.decreases-loop-at
decreases-loop-at g l = stored_height (column_of l.store l.self.col) l.at
