use Rattle.std.proofs.Common.{None, false, true, refl, sym, ◌∙◌}
use Rattle.table_cmd.specs.Command.{table_in}
use Rattle.shared_tables.specs.declared.fault.CallFault.TheVariants.{Stranger}
use Rattle.shared_tables.proofs.Reading.{call_until, memory_some, unnamed_some}
use Rattle.shared_tables.proofs.Schemas.{entered_by, known_by, named_by}
use Rattle.shared_tables.proofs.shared.Shared.call_on.Goals as goal

pub returns-then-not-is_known-clause-refused : goal.returns-then-not-is_known-clause-refused
returns-then-not-is_known-clause-refused g c =
    call_until c.args.self.now c.args.pass.now c.args.pass.now c.args.first c.args.later.now c.args.out.now.bytes c.args.out.now.bytes Stranger
    (known_by c.args.self.now c.self.inside.schema c.tables-tables.result.now c.self.inside.workers c.self.view_is c.tables-tables.ensures.value c.args.pass.now false c.is_known.result c.is_known.ensures c.if-not-is_known.true) refl refl

pub returns-in_default-clause-answered : goal.returns-in_default-clause-answered
returns-in_default-clause-answered g c =
    unnamed_some c.args.self.now c.args.pass.now c.args.first c.args.later.now c.args.out.now.bytes c.tell_fault.new.out.bytes
    (known_by c.args.self.now c.self.inside.schema c.tables-tables.result.now c.self.inside.workers c.self.view_is c.tables-tables.ensures.value c.args.pass.now true c.is_known.result c.is_known.ensures c.if-not-is_known.false)
    (named_by c.args.self.now c.self.inside.schema c.tables-tables.result.now c.self.inside.workers c.self.view_is c.tables-tables.ensures.value c.table.result.now (table_in c.args.first) None c.table.ensures (sym c.in_default.is ∙ c.table_at.ensures)) c.tell_fault.ensures

pub returns-then-not-is_of-clause-answered : goal.returns-then-not-is_of-clause-answered
returns-then-not-is_of-clause-answered g c =
    memory_some c.args.self.now c.args.pass.now c.args.first c.args.later.now c.args.out.now.bytes c.tell_fault-then-not-is_of.new.out.bytes
    (known_by c.args.self.now c.self.inside.schema c.tables-tables.result.now c.self.inside.workers c.self.view_is c.tables-tables.ensures.value c.args.pass.now true c.is_known.result c.is_known.ensures c.if-not-is_known.false) c.tell_fault-then-not-is_of.ensures

pub step_on-requires-clause-entered : goal.step_on-requires-clause-entered
step_on-requires-clause-entered g c =
    entered_by c.args.self.now c.self.inside.schema c.tables-tables.result.now c.self.inside.workers c.self.view_is c.tables-tables.ensures.value
    c.in-Some.place c.index-tables-place.result c.deref_mut.result.now c.deref.result.now c.table.result.now (table_in c.args.first)
    c.tables-tables.ensures.valid c.table.ensures c.in-Some.ensures c.index-tables-place.is (c.deref_mut.ensures.value ∙ sym c.deref.ensures) (c.is_of.ensures.same.0 c.if-not-is_of.false)
