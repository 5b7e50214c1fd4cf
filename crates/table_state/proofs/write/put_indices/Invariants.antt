use Rattle.std.proofs.Common.{◌≡◌, map, take}
use Rattle.table_state.specs.State.{index_command, lines_text}
use Rattle.table_state.specs.Writing.{Puts, gathered}
use Rattle.table_state.proofs.write.put_indices.Given as goal

abbrev pub invariant-loop-index : goal.invariant-loop-index
invariant-loop-index g l = record {
  puts : Puts (gathered (g.D.Disk.contents l.fn.disk) (g.D.Disk.size l.fn.disk) l.fn.lines.bytes) (gathered (g.D.Disk.contents l.disk) (g.D.Disk.size l.disk) l.lines.bytes)
      (lines_text (map (index_command l.table.shape) (take l.index-index l.table.shape.indices)));
  synced : g.D.Disk.synced l.disk ≡ g.D.Disk.synced l.fn.disk;
  failures : g.D.Disk.failures l.disk ≡ g.D.Disk.failures l.fn.disk;
}
