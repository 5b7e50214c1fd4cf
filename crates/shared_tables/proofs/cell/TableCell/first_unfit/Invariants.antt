use Rattle.std.proofs.Common.{take}
use Rattle.shared_tables.specs.Gathered.{FirstFailure}
use Rattle.shared_tables.specs.Looks.{Fits, OfSession}
use Rattle.shared_tables.proofs.cell.TableCell.first_unfit.Given as goal

abbrev pub invariant-loop-pass : goal.invariant-loop-pass
invariant-loop-pass l = FirstFailure (OfSession (Fits l.self) (take l.pass-index l.passes)) l.least
