use Rattle.std.proofs.Common.{◌≡◌, map, take}
use Rattle.table_state.specs.State.{lines_text, record_command}
use Rattle.table_state.specs.Writing.{Puts, gathered}
use Rattle.table_state.proofs.write.put_records.Given as goal

abbrev pub invariant-loop-handle : goal.invariant-loop-handle
invariant-loop-handle g l = record {
  puts : Puts (gathered (g.D.Disk.contents l.fn.disk) (g.D.Disk.size l.fn.disk) l.fn.lines.bytes) (gathered (g.D.Disk.contents l.disk) (g.D.Disk.size l.disk) l.lines.bytes)
      (lines_text (map (record_command l.table.shape) (take l.handle-index l.table.records.entries)));
  synced : g.D.Disk.synced l.disk ≡ g.D.Disk.synced l.fn.disk;
  failures : g.D.Disk.failures l.disk ≡ g.D.Disk.failures l.fn.disk;
}
