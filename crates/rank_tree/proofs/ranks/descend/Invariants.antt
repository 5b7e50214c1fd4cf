use Rattle.node_store.specs.ByNode.{column_of}
use Rattle.ord_tree.specs.Spelled.{tree_of}
use Rattle.ord_tree.specs.Stored.{side_in}
use Rattle.ord_tree.specs.Tree.{stored_height}
use Rattle.ord_tree.specs.Digests.{KeepsDigest}
use Rattle.ord_tree.proofs.Below.{AllBelow}
use Rattle.rank_tree.specs.Subtrees.{size_tally}
use Rattle.rank_tree.proofs.KeyRanks.{Ranks}
use Rattle.rank_tree.proofs.ranks.descend.Given as goal

abbrev pub invariant-loop-at : goal.invariant-loop-at
invariant-loop-at g l = record {
  ranks : Ranks (column_of l.store l.col) (side_in g.E.Extract l.tree l.store l.keys l.probe) l.after_equals (tree_of (column_of l.store) l.tree) l.at l.rank l.met;
  below : AllBelow size_tally (column_of l.store l.col) (KeepsDigest (g.E.Extract.digest_of l.keys l.index) l.store l.col) l.at;
}

abbrev pub decreases-loop-at : goal.decreases-loop-at
decreases-loop-at g l = stored_height (column_of l.store l.col) l.at
