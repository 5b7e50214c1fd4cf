use Rattle.std.proofs.Common.{◌≤◌, length, take}
use Rattle.std.specs.BinaryHeap.{heap_items, heap_capacity}
use Rattle.slot_table.proofs.Filling.{AreNoted}
use Rattle.slot_table.proofs.restore.noted.Given as goal

abbrev pub invariant-loop-slot : goal.invariant-loop-slot
invariant-loop-slot g l = record {
  noted : AreNoted (take l.slot l.items) (heap_items l.free);
  room : length l.items ≤ heap_capacity l.free;
}
