use Rattle.std.proofs.Common.{◌-◌, ◌≡◌, ◌++◌, ℕ, List, Some, ◌≤◌, ◌<◌, length, drop}
use Rattle.checked_log.specs.Cuts.{Lacks}
use Rattle.table_folder.specs.Ended.{ended_of}
use Rattle.table_folder.proofs.reading.read_through.Given as goal

abbrev pub invariant-loop-at : goal.invariant-loop-at
invariant-loop-at g l = record {
  within : l.at ≤ l.size;
  is_size : l.size ≡ g.D.Disk.size l.disk;
  contents : g.D.Disk.contents l.disk ≡ g.D.Disk.contents l.fn.disk;
  room : 0 < length l.piece;
  lacks : Lacks 10 l.reader.line.items;
  rest : (bytes : List ℕ) → g.D.Disk.contents l.fn.disk ≡ Some bytes → ended_of l.fn.reader.ended bytes ≡ ended_of l.reader.ended (l.reader.line.items ++ drop l.at bytes);
}

abbrev pub decreases-loop-at : goal.decreases-loop-at
decreases-loop-at g l = l.size - l.at
