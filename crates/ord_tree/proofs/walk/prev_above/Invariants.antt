use Rattle.node_store.specs.Column.{IsNode}
use Rattle.node_store.specs.ByNode.{column_of}
use Rattle.ord_tree.specs.Tree.{Tree}
use Rattle.ord_tree.specs.Path.{Path, levels_above}
use Rattle.ord_tree.specs.Removal.{Climbs}
use Rattle.ord_tree.specs.Mirror.{flipped, flipped_tally}
use Rattle.ord_tree.proofs.Climbing.{Climbed}
use Rattle.ord_tree.proofs.walk.prev_above.Given as goal

abbrev pub invariant-loop-at : goal.invariant-loop-at
invariant-loop-at g l = record {
  climbed : (path : Path) (t : Tree) → Climbs (flipped_tally g.T.Tally.of) (flipped (column_of l.store l.col)) l.initial.below l.initial.at path t
      → Climbed (flipped_tally g.T.Tally.of) (flipped (column_of l.store l.col)) l.below l.at path;
  below : IsNode (column_of l.store l.col) l.below;
}

abbrev pub decreases-loop-at : goal.decreases-loop-at
decreases-loop-at g l = levels_above (flipped (column_of l.store l.col)) l.at
