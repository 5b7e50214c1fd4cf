use Rattle.std.proofs.Common.{◌≡◌, length}
use Rattle.checked_disk.specs.Files.{IsQuiet}
use Rattle.checked_disk.proofs.again.read_again.Given as goal

abbrev pub invariant-loop : goal.invariant-loop
invariant-loop g l = record {
  contents : g.F.LogFiles.contents l.files ≡ g.F.LogFiles.contents l.fn.files;
  mark : g.F.LogFiles.mark l.files ≡ g.F.LogFiles.mark l.fn.files;
  settles : g.F.LogFiles.settles l.files ≡ g.F.LogFiles.settles l.fn.files;
  puts : g.F.LogFiles.puts l.files ≡ g.F.LogFiles.puts l.fn.files;
  room : length l.piece ≡ length l.fn.piece;
  quiet : IsQuiet g.F.LogFiles.written g.F.LogFiles.may_leave g.F.LogFiles.moment g.F.LogFiles.left_since l.fn.files l.files;
}
