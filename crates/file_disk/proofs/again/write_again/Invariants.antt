use Rattle.std.proofs.Common.{◌≡◌}
use Rattle.file_disk.proofs.again.write_again.Given as goal

abbrev pub invariant-loop : goal.invariant-loop
invariant-loop g l = (g.F.LogFile.contents l.file ≡ g.F.LogFile.contents l.fn.file) × (g.F.LogFile.settles l.file ≡ g.F.LogFile.settles l.fn.file)
