use Rattle.std.proofs.Common.{◌≡◌, ◌+◌, ◌≤◌, length}
use Rattle.checked_log.specs.Recover.{walk_from, walked}
use Rattle.checked_log.specs.Whole.{ended}
use Rattle.checked_log.proofs.recovery.recover.Given as goal

-- what was found, and the lines that are left, lead to what all lines do
abbrev pub invariant-loop-line : goal.invariant-loop-line
invariant-loop-line l = record {
  same : walked l.mark l.walk (ended l.left) ≡ walked l.mark (walk_from l.fn.base l.mark) (ended l.bytes);
  count : l.count ≡ length l.bytes;
  room : l.walk.so_far.end + l.walk.so_far.behind.lines + length l.left ≤ length l.bytes;
}

abbrev pub decreases-loop-line : goal.decreases-loop-line
decreases-loop-line l = length l.left
