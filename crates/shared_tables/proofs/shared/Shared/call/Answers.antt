use Rattle.std.proofs.Common.{sym, ◌∙◌}
use Rattle.table_cmd.specs.Command.{table_in}
use Rattle.shared_tables.proofs.Schemas.{entered_by}
use Rattle.shared_tables.proofs.shared.Shared.call.Goals as goal

pub tell_step-requires-clause-entered : goal.tell_step-requires-clause-entered
tell_step-requires-clause-entered g c =
    entered_by c.args.self.now c.self.inside.schema c.tables-tables.result.now c.self.inside.workers c.self.view_is c.tables-tables.ensures.value
    c.in-Some.place c.index-tables-place.result c.deref_mut.result.now c.deref.result.now c.table.result.now (table_in c.args.command)
    c.tables-tables.ensures.valid c.table.ensures c.in-Some.ensures c.index-tables-place.is (c.deref_mut.ensures.value ∙ sym c.deref.ensures) (c.is_of.ensures.same.0 c.if-not-is_of.false)
