use Rattle.std.proofs.Common.{◌≡◌, length, map, take}
use Rattle.std.specs.List.{range_with_len}
use Rattle.table_state.specs.State.{lines_text, order_at}
use Rattle.table_state.specs.Writing.{Puts, gathered}
use Rattle.table_state.proofs.write.put_orders.Given as goal

abbrev pub invariant-loop-index : goal.invariant-loop-index
invariant-loop-index g l = record {
  puts : Puts (gathered (g.D.Disk.contents l.fn.disk) (g.D.Disk.size l.fn.disk) l.fn.lines.bytes) (gathered (g.D.Disk.contents l.disk) (g.D.Disk.size l.disk) l.lines.bytes)
      (lines_text (map (order_at l.table.shape l.table.records.lists) (take l.index (range_with_len 0 (length l.table.shape.indices)))));
  synced : g.D.Disk.synced l.disk ≡ g.D.Disk.synced l.fn.disk;
  failures : g.D.Disk.failures l.disk ≡ g.D.Disk.failures l.fn.disk;
}
