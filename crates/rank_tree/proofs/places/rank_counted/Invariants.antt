use Rattle.std.proofs.Common.{◌-◌}
use Rattle.node_store.specs.ByNode.{column_of}
use Rattle.ord_tree.specs.Spelled.{tree_of}
use Rattle.ord_tree.specs.Tree.{height}
use Rattle.rank_tree.proofs.Climbs.{Climbs}
use Rattle.rank_tree.proofs.places.rank_counted.Given as goal

abbrev pub invariant-loop-at : goal.invariant-loop-at
invariant-loop-at g l = Climbs (column_of l.store l.col) (tree_of (column_of l.store) l.tree) l.fn.n l.below l.at l.rank l.links

abbrev pub decreases-loop-at : goal.decreases-loop-at
decreases-loop-at g l = height (tree_of (column_of l.store) l.tree) - l.links
