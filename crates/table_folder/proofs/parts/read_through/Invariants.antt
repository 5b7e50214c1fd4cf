use Rattle.std.proofs.Common.{◌-◌, ◌≡◌, ◌≤◌, ◌<◌, ℕ, List, Some, drop, length, take}
use Rattle.table_folder.proofs.parts.read_through.Given as goal

abbrev pub invariant-loop-at : goal.invariant-loop-at
invariant-loop-at g l = record {
  from : l.first ≤ l.at;
  within : l.at ≤ l.end;
  contents : g.D.Disk.contents l.disk ≡ g.D.Disk.contents l.fn.disk;
  size : g.D.Disk.size l.disk ≡ g.D.Disk.size l.fn.disk;
  room : 0 < length l.piece;
  read : (bytes : List ℕ) → g.D.Disk.contents l.fn.disk ≡ Some bytes → l.part.items ≡ take (l.at - l.first) (drop l.first bytes);
}

abbrev pub decreases-loop-at : goal.decreases-loop-at
decreases-loop-at g l = l.end - l.at
