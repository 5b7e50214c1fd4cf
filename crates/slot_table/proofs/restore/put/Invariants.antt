use Rattle.std.proofs.Common.{◌≡◌, Some, ◌-◌}
use Rattle.slot_table.specs.Slots.{with_item}
use Rattle.slot_table.proofs.restore.put.Given as goal

abbrev pub invariant-loop-items : goal.invariant-loop-items
invariant-loop-items g l = record {
  same : with_item l.items.items l.slot (Some l.item) ≡ with_item l.initial.items.items l.slot (Some l.item);
}

abbrev pub decreases-loop-items : goal.decreases-loop-items
decreases-loop-items g l = l.slot - l.items.len
