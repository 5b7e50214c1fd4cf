use Rattle.ord_tree.specs.Tree.{Tree, IsAt, stored_height}
use Rattle.std.proofs.Common.{Some}
use Rattle.ord_tree.proofs.Removing.{FirstSoFar}
use Rattle.ord_tree.proofs.removal.first_below.Given as goal
use Rattle.node_store.specs.ByNode.{column_of}

abbrev pub invariant-loop-left : goal.invariant-loop-left
invariant-loop-left g l = (t : Tree) → IsAt g.T.Tally.of (column_of l.store l.col) (Some l.fn.n) t → FirstSoFar g.T.Tally.of (column_of l.store l.col) l.first t

abbrev pub decreases-loop-left : goal.decreases-loop-left
decreases-loop-left g l = stored_height (column_of l.store l.col) (Some l.first)
