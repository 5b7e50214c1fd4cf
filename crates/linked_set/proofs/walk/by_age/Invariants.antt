use Rattle.any_index.specs.Side.{AreNodesOf}
use Rattle.index_set.specs.Set.{store_of, record_of}
use Rattle.linked_set.proofs.Ages.{left, HasPassed}
use Rattle.linked_set.proofs.walk.by_age.Given as goal

abbrev pub invariant-loop-next : goal.invariant-loop-next
invariant-loop-next g l = record {
  nodes : AreNodesOf (store_of (g.S.Nodes.parts l.set)) l.next;
  passed : HasPassed (g.T.OfNode.of (record_of (g.S.Nodes.parts l.set))) (store_of (g.S.Nodes.parts l.set)) l.next l.met.items;
}

abbrev pub decreases-loop-next : goal.decreases-loop-next
decreases-loop-next g l = left (store_of (g.S.Nodes.parts l.set)) l.next
