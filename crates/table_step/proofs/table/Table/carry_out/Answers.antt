use Rattle.std.proofs.Common.{subst, ◌∙◌}
use Rattle.table_changes.specs.Change.{change_step}
use Rattle.table_changes.proofs.Kept.{change_keeps, steps_declared, steps_unwritten}
use Rattle.table_terms.specs.Table.{IsOfSameTable}
use Rattle.table_step.proofs.table.Table.carry_out.Goals as goal

pub returns-then-is_change-clause-declared : goal.returns-then-is_change-clause-declared
returns-then-is_change-clause-declared c =
    let t = c.self.inside.records in
    let step = change_step t c.args.command.now in
    subst (λ s. IsOfSameTable c.change.new.records.shape s.shape) c.self.view_is
    (steps_declared c.args.out.out.now.bytes c.change.result.out.now.bytes t c.change.new.records step (change_keeps t c.args.command.now) c.change.result.what c.change.ensures.answer)

pub returns-then-is_change-clause-unchanged : goal.returns-then-is_change-clause-unchanged
returns-then-is_change-clause-unchanged c = λ unwritten.
    let t = c.self.inside.records in
    let step = change_step t c.args.command.now in
    steps_unwritten c.args.out.out.now.bytes c.change.result.out.now.bytes t c.change.new.records step (change_keeps t c.args.command.now) c.change.result.what c.change.ensures.answer unwritten ∙ c.self.view_is
