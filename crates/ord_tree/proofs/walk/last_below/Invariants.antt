use Rattle.std.proofs.Common.{Some}
use Rattle.node_store.specs.ByNode.{column_of}
use Rattle.ord_tree.specs.Tree.{Tree, IsAt, stored_height}
use Rattle.ord_tree.specs.Mirror.{flipped, flipped_tally}
use Rattle.ord_tree.proofs.Removing.{FirstSoFar}
use Rattle.ord_tree.proofs.walk.last_below.Given as goal

abbrev pub invariant-loop-right : goal.invariant-loop-right
invariant-loop-right g l =
    (t : Tree) → IsAt (flipped_tally g.T.Tally.of) (flipped (column_of l.store l.col)) (Some l.fn.n) t → FirstSoFar (flipped_tally g.T.Tally.of) (flipped (column_of l.store l.col)) l.last t

abbrev pub decreases-loop-right : goal.decreases-loop-right
decreases-loop-right g l = stored_height (flipped (column_of l.store l.col)) (Some l.last)
