use Rattle.any_index.specs.Keyed.{marks_of}
use Rattle.std.proofs.Common.{◌≡◌}
use Rattle.index_set.specs.Set.{contents}
use Rattle.linked_set.specs.Held.{has_other_key}
use Rattle.linked_set.proofs.Thinned.{Thinned}
use Rattle.linked_set.proofs.erase_key.sink_key.Given as goal

abbrev pub invariant-loop-row : goal.invariant-loop-row
invariant-loop-row g l = record {
  thinned : Thinned g.E.Extract.has_key g.E.Extract.order_of (marks_of g.E.Extract) (has_other_key g.E.Extract.probe_order_of l.fn.set l.index l.probe) l.fn.set l.set l.slots.items;
  contents : contents l.set ≡ contents l.fn.set;
}
