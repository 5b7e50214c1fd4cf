use Rattle.std.proofs.Common.{◌≡◌, ◌-◌, length, slice_get}
use Rattle.index_set.specs.Set.{record_of, list_of}
use Rattle.linked_set.specs.Linked.{handle_of}
use Rattle.linked_set.proofs.Walks.{HasMet}
use Rattle.linked_set.proofs.walk.in_order.Given as goal

abbrev pub invariant-loop-next : goal.invariant-loop-next
invariant-loop-next g l = record {
  place : l.next ≡ slice_get (list_of (g.S.Nodes.parts l.set) l.index) (length l.handles.items);
  met : HasMet (handle_of (record_of (g.S.Nodes.parts l.set))) (list_of (g.S.Nodes.parts l.set) l.index) l.handles.items;
}

abbrev pub decreases-loop-next : goal.decreases-loop-next
decreases-loop-next g l = length (list_of (g.S.Nodes.parts l.set) l.index) - length l.handles.items
