use Rattle.any_index.specs.Keyed.{marks_of}
use Rattle.std.proofs.Common.{map}
use Rattle.linked_set.proofs.Restored.{AreFilled}
use Rattle.linked_set.proofs.restoring.fill_all.Given as goal

abbrev pub invariant-loop-index : goal.invariant-loop-index
invariant-loop-index g l = AreFilled g.E.Extract.has_key g.E.Extract.order_of (marks_of g.E.Extract) l.slots.items l.fn.set l.set (map (λ order. order.items) l.orders) l.index
