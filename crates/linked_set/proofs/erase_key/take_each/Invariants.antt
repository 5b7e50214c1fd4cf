use Rattle.any_index.specs.Keyed.{marks_of}
use Rattle.node_store.specs.Store.{len_of}
use Rattle.index_set.specs.Set.{store_of}
use Rattle.linked_set.specs.Held.{has_other_key}
use Rattle.linked_set.proofs.Thinned.{Thinned}
use Rattle.linked_set.proofs.erase_key.take_each.Given as goal

abbrev pub invariant-loop-node : goal.invariant-loop-node
invariant-loop-node g l =
    Thinned g.E.Extract.has_key g.E.Extract.order_of (marks_of g.E.Extract) (has_other_key g.E.Extract.probe_order_of l.initial.set l.index l.probe) l.initial.set l.set l.slots.items

abbrev pub decreases-loop-node : goal.decreases-loop-node
decreases-loop-node g l = len_of (store_of l.set)
