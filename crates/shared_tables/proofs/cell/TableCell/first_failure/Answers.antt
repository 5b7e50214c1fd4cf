use Rattle.std.proofs.Common.{sym, subst, ℕ}
use Rattle.std.specs.Prelude.{Option}
use Rattle.shared_tables.specs.Gathered.{FirstFailure, SessionAgrees}
use Rattle.shared_tables.proofs.Failures.{first_of_writes_and_looks}
use Rattle.shared_tables.proofs.cell.TableCell.first_failure.Goals as goal

pub returns : goal.returns
returns c =
    let cell = c.args.self.now in
    let passes = c.args.passes.now in
    subst (λ (first : Option ℕ). FirstFailure (SessionAgrees passes cell) first) (sym c.lesser.ensures)
    (first_of_writes_and_looks cell passes c.first_unlike-unlike.result c.in_ok-unfit.unfit c.first_unlike-unlike.ensures c.in_ok-unfit.ensures)
