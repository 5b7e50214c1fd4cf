use Rattle.any_index.specs.Keyed.{marks_of}
use Rattle.std.specs.Vec.Iter.{into_iter_items}
use Rattle.linked_set.proofs.Restored.{AreAdded}
use Rattle.linked_set.proofs.restoring.add_all.Given as goal

abbrev pub invariant-loop-entry : goal.invariant-loop-entry
invariant-loop-entry g l = AreAdded g.E.Extract.has_key g.E.Extract.order_of (marks_of g.E.Extract) l.initial.set l.set l.fn.entries.items (into_iter_items l.entry-iterator) l.slots.items
