use Rattle.std.proofs.Common.{◌-◌}
use Rattle.node_store.specs.ByNode.{column_of}
use Rattle.ord_tree.specs.Spelled.{tree_of}
use Rattle.ord_tree.specs.Tree.{height}
use Rattle.rank_tree.proofs.Descents.{Nears}
use Rattle.rank_tree.proofs.places.nth_counted.Given as goal

abbrev pub invariant-loop-at : goal.invariant-loop-at
invariant-loop-at g l = Nears (column_of l.store l.col) (tree_of (column_of l.store) l.tree) l.place l.at l.rest l.links

abbrev pub decreases-loop-at : goal.decreases-loop-at
decreases-loop-at g l = height (tree_of (column_of l.store) l.tree) - l.links
