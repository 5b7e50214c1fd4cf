use Rattle.std.proofs.Common.{◌-◌, ◌≡◌, ℕ, List, Some, ◌≤◌, ◌<◌, length, drop, take}
use Rattle.checked_log.specs.Digest.{digest, finished}
use Rattle.table_folder.proofs.digesting.digest_through.Given as goal

abbrev pub invariant-loop-at : goal.invariant-loop-at
invariant-loop-at g l = record {
  within : l.at ≤ l.end;
  contents : g.D.Disk.contents l.disk ≡ g.D.Disk.contents l.fn.disk;
  sizes : g.D.Disk.size l.disk ≡ g.D.Disk.size l.fn.disk;
  room : 0 < length l.piece;
  rest : (bytes : List ℕ) → g.D.Disk.contents l.fn.disk ≡ Some bytes → finished l.digesting (drop l.at (take l.end bytes)) ≡ digest (take l.end bytes);
}

abbrev pub decreases-loop-at : goal.decreases-loop-at
decreases-loop-at g l = l.end - l.at
