use Rattle.std.proofs.Common.{◌≡◌, Some, get_or, slice_set, sym, ap, subst, ◌∙◌}
use Rattle.table_cmd.specs.Command.{table_in}
use Rattle.table_step.specs.Step.{step_at}
use Rattle.table_engine.specs.Tables.{Carried, Replies, table_at}
use Rattle.table_engine.proofs.Tables.{Replies-from_Steps, carried-at}
use Rattle.table_engine.proofs.carry.carry_out.Goals as goal

pub returns-in-Some-clause-answer : goal.returns-in-Some-clause-answer
returns-in-Some-clause-answer c =
    let tables = c.args.tables.now in
    let command = c.args.command.now in
    let place = c.in-Some.place in
    let old = get_or tables place c.index-tables-place.result in
    let is : old ≡ get_or tables place old = ap (get_or tables place) c.index-tables-place.is in
    let at : table_at tables (table_in command) ≡ Some place = ap (table_at tables) (sym c.table.ensures) ∙ sym c.in-Some.ensures in
    let replies = Replies-from_Steps c.carry_out.result.what c.args.out.out.now.bytes c.carry_out.result.out.now.bytes tables place old c.carry_out.new.self (step_at old command) is c.carry_out.ensures.answer in
    subst (λ (step : Carried). Replies c.args.out.out.now.bytes c.carry_out.result.out.now.bytes tables (slice_set tables place c.carry_out.new.self) step) (sym (carried-at tables command place old at is)) replies
