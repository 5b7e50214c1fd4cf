use Rattle.std.proofs.Common.{◌-◌, ◌≡◌, ℕ, List, Some, ◌≤◌, ◌<◌, length, drop}
use Rattle.std.specs.List.{fold}
use Rattle.table_folder.specs.Lines.{lines_of, with_byte}
use Rattle.table_folder.proofs.lines.count_through.Given as goal

abbrev pub invariant-loop-at : goal.invariant-loop-at
invariant-loop-at g l = record {
  within : l.at ≤ l.size;
  is_size : l.size ≡ g.D.Disk.size l.disk;
  contents : g.D.Disk.contents l.disk ≡ g.D.Disk.contents l.fn.disk;
  room : 0 < length l.piece;
  rest : (bytes : List ℕ) → g.D.Disk.contents l.fn.disk ≡ Some bytes → lines_of bytes ≡ fold with_byte l.lines (drop l.at bytes);
}

abbrev pub decreases-loop-at : goal.decreases-loop-at
decreases-loop-at g l = l.size - l.at
