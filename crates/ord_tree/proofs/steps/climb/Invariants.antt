use Rattle.std.proofs.Common.{◌≡◌}
use Rattle.node_store.specs.Column.{IsNode}
use Rattle.ord_tree.specs.Tree.{Tree, Hangs}
use Rattle.ord_tree.specs.Path.{Path, plug, levels_above, ReplacedAt}
use Rattle.ord_tree.specs.Digests.{KeepsDigests}
use Rattle.ord_tree.specs.Steps.{KeepsNodes, KeepsOthers}
use Rattle.ord_tree.proofs.Rising.{Carried}
use Rattle.ord_tree.proofs.steps.climb.Given as goal
use Rattle.node_store.specs.ByNode.{column_of, contents}

abbrev pub invariant-loop-link : goal.invariant-loop-link
invariant-loop-link g l = record {
  carried : (path : Path) (was now : Tree) → ReplacedAt g.T.Tally.of (column_of l.initial.store l.col) l.initial.old l.initial.link l.initial.new path was now → Hangs g.T.Tally.of (column_of l.initial.store l.col) l.initial.link.up now → Carried g.T.Tally.of (column_of l.initial.store l.col) (column_of l.store l.col) path now (plug path was) l.old l.link l.new;
  old : IsNode (column_of l.store l.col) l.old;
  nodes : KeepsNodes (column_of l.initial.store l.col) (column_of l.store l.col);
  digests : KeepsDigests (column_of l.initial.store l.col) (column_of l.store l.col);
  others : KeepsOthers (column_of l.initial.store) (column_of l.store) l.col;
  contents : contents l.store ≡ contents l.initial.store;
}

abbrev pub decreases-loop-link : goal.decreases-loop-link
decreases-loop-link g l = levels_above (column_of l.store l.col) l.link.up
