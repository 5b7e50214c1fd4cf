use Rattle.std.proofs.Common.{◌≡◌, ◌-◌, ◌≤◌, max}
use Rattle.checked_disk.specs.Files.{Writes}
use Rattle.checked_disk.specs.Stands.{RewriteLasts}
use Rattle.checked_disk.proofs.tail.rewrite_from.Given as goal

abbrev pub invariant-loop-at : goal.invariant-loop-at
invariant-loop-at g l = record {
  contents : g.F.LogFiles.contents l.disk.files ≡ g.F.LogFiles.contents l.fn.disk.files;
  size : l.disk.size ≡ l.fn.disk.size;
  mark : g.F.LogFiles.mark l.disk.files ≡ g.F.LogFiles.mark l.fn.disk.files;
  settles : g.F.LogFiles.settles l.disk.files ≡ g.F.LogFiles.settles l.fn.disk.files;
  puts : g.F.LogFiles.puts l.disk.files ≡ g.F.LogFiles.puts l.fn.disk.files;
  end : l.end ≡ l.fn.disk.size;
  from : l.start ≤ l.at;
  upto : l.at ≤ max l.start l.fn.disk.size;
  places : Writes (g.F.LogFiles.written l.fn.disk.files) (g.F.LogFiles.written l.disk.files) l.start (l.at - l.start);
  lasts : RewriteLasts g.F.LogFiles.contents g.F.LogFiles.may_leave g.F.LogFiles.moment g.F.LogFiles.left_since l.fn.disk.files l.disk.files;
}

abbrev pub decreases-loop-at : goal.decreases-loop-at
decreases-loop-at g l = l.end - l.at
