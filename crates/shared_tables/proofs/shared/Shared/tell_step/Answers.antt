use Rattle.std.proofs.lemmas.Result.{on_err_weaker}
use Rattle.shared_tables.proofs.Hears.{entered_after, hears, is_found, refuses}
use Rattle.shared_tables.proofs.shared.Shared.tell_step.Goals as goal

pub returns-clause-entered : goal.returns-clause-entered
returns-clause-entered g c =
    entered_after c.args.self.now c.args.place c.args.cell.now c.call.new.self c.args.pass.now c.call.new.pass c.args.command c.args.out.out.now.bytes c.call.result.out.now.bytes c.call.result.what
    c.requires.entered (on_err_weaker c.call.result.what (λ h. h.0) c.call.ensures.refused) c.call.ensures.answered

pub returns-clause-answered : goal.returns-clause-answered
returns-clause-answered g c =
    hears c.args.self.now c.args.place c.args.cell.now c.call.new.self c.args.pass.now c.call.new.pass c.args.command c.args.out.out.now.bytes c.call.result.out.now.bytes c.call.result.what
    c.requires.named (is_found c.args.self.now c.args.place c.args.cell.now c.requires.entered c.call.ensures.legal) c.requires.entered.tables c.call.ensures.fault c.call.ensures.answered

pub returns-clause-refused : goal.returns-clause-refused
returns-clause-refused g c =
    refuses c.args.self.now c.args.place c.args.cell.now c.args.pass.now c.args.command c.call.result.what
    c.requires.named (is_found c.args.self.now c.args.place c.args.cell.now c.requires.entered c.call.ensures.legal) c.requires.entered.tables c.call.ensures.fault
