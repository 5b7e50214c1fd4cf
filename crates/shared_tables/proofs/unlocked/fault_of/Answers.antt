use Rattle.std.proofs.Common.{ℕ, subst, Option}
use Rattle.shared_tables.specs.Journals.{FirstMismatch}
use Rattle.shared_tables.proofs.Tables.{gathered}
use Rattle.shared_tables.proofs.unlocked.fault_of.Goals as goal

pub returns-in-Ok-None-clause-none : goal.returns-in-Ok-None-clause-none
returns-in-Ok-None-clause-none c =
    let cells = c.args.cells.now in
    let passes = c.args.passes.now in
    gathered c.args.specs.now c.args.workers cells passes c.requires (c.are_of.ensures.tables c.if-not-are_of.false) (c.are_of.ensures.legal c.if-not-are_of.false)
    (subst (λ (first : Option (ℕ × ℕ)). FirstMismatch cells passes first) c.in-Ok-None.field-0-is c.in-Ok-None.ensures)
