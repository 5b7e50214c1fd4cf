use Rattle.std.proofs.Common.{◌≡◌, ◌-◌, ◌≤◌, ℕ, List, [], Some}
use Rattle.checked_disk.specs.Files.{IsQuiet}
use Rattle.checked_disk.specs.Reading.{IsSound}
use Rattle.checked_disk.proofs.Pieces.{IsWalking}
use Rattle.checked_disk.proofs.recovering.walk_all.Given as goal

abbrev pub invariant-loop-reader : goal.invariant-loop-reader
invariant-loop-reader g l = record {
  contents : g.F.LogFiles.contents l.disk.files ≡ g.F.LogFiles.contents l.fn.disk.files;
  size : l.disk.size ≡ l.fn.disk.size;
  same_mark : g.F.LogFiles.mark l.disk.files ≡ g.F.LogFiles.mark l.fn.disk.files;
  settles : g.F.LogFiles.settles l.disk.files ≡ g.F.LogFiles.settles l.fn.disk.files;
  puts : g.F.LogFiles.puts l.disk.files ≡ g.F.LogFiles.puts l.fn.disk.files;
  quiet : IsQuiet g.F.LogFiles.written g.F.LogFiles.may_leave g.F.LogFiles.moment g.F.LogFiles.left_since l.fn.disk.files l.disk.files;
  end : l.end ≡ l.fn.disk.size;
  place : l.reader.place ≤ l.fn.disk.size;
  sound : IsSound l.reader;
  mark : l.reader.mark ≡ l.fn.reader.mark;
  plain : l.reader.plain.items ≡ [];
  so_far : (bytes : List ℕ) → g.F.LogFiles.contents l.fn.disk.files ≡ Some bytes → IsWalking l.fn.reader bytes l.size l.reader;
}

abbrev pub decreases-loop-reader : goal.decreases-loop-reader
decreases-loop-reader g l = l.end - l.reader.place
