use Rattle.std.proofs.Common.{ℕ, ◌<◌}
use Rattle.shared_tables.specs.Looks.{WritesAgree}
use Rattle.shared_tables.proofs.cell.TableCell.first_unlike.Given as goal

abbrev pub invariant-loop-session : goal.invariant-loop-session
invariant-loop-session l = (session : ℕ) → session < l.session → WritesAgree l.passes l.self session
