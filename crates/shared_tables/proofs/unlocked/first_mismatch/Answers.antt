use Rattle.std.proofs.Common.{ℕ, subst, Option}
use Rattle.shared_tables.specs.Gathered.{FirstFailure, SessionAgrees}
use Rattle.shared_tables.proofs.Tables.{agree_all, agree_more}
use Rattle.shared_tables.proofs.unlocked.first_mismatch.Goals as goal

pub loop-table-preserved : goal.loop-table-preserved
loop-table-preserved c =
    let cell = c.index-cells-table.result in
    agree_more c.args.passes.now c.args.cells.now c.loop-table.table cell c.loop-table-test.true c.index-cells-table.is
    (subst (λ (first : Option ℕ). FirstFailure (SessionAgrees c.args.passes.now cell) first) c.in_default.is c.in_ok-session.ensures)
    c.loop-table.invariant

pub returns : goal.returns
returns c = agree_all c.args.passes.now c.args.cells.now c.loop-table.table c.loop-table-test.false c.loop-table.invariant
