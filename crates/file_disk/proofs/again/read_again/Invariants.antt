use Rattle.std.proofs.Common.{◌≡◌, length}
use Rattle.file_disk.proofs.again.read_again.Given as goal

abbrev pub invariant-loop : goal.invariant-loop
invariant-loop g l = record {
  contents : g.F.LogFile.contents l.file ≡ g.F.LogFile.contents l.fn.file;
  settles : g.F.LogFile.settles l.file ≡ g.F.LogFile.settles l.fn.file;
  room : length l.piece ≡ length l.fn.piece;
}
