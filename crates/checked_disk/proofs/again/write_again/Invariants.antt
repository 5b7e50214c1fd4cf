use Rattle.std.proofs.Common.{◌≡◌}
use Rattle.checked_disk.specs.Files.{Writes}
use Rattle.checked_disk.specs.Stands.{WriteLasts}
use Rattle.checked_disk.proofs.again.write_again.Given as goal

abbrev pub invariant-loop : goal.invariant-loop
invariant-loop g l = record {
  contents : g.F.LogFiles.contents l.files ≡ g.F.LogFiles.contents l.fn.files;
  mark : g.F.LogFiles.mark l.files ≡ g.F.LogFiles.mark l.fn.files;
  settles : g.F.LogFiles.settles l.files ≡ g.F.LogFiles.settles l.fn.files;
  puts : g.F.LogFiles.puts l.files ≡ g.F.LogFiles.puts l.fn.files;
  places : Writes (g.F.LogFiles.written l.fn.files) (g.F.LogFiles.written l.files) l.at 0;
  lasts : WriteLasts g.F.LogFiles.may_leave g.F.LogFiles.moment g.F.LogFiles.left_since l.at l.bytes l.fn.files l.files;
}
