use Rattle.std.proofs.Common.{refl}
use Rattle.table_reply.specs.Answer.{answer_text, fault}
use Rattle.shared_tables.specs.declared.request.Request.TheVariants as requests
use Rattle.shared_tables.proofs.Reading.{some_one}
use Rattle.shared_tables.proofs.shared.Shared.answer_on.Goals as goal

pub returns-in-Fault-clause-answered : goal.returns-in-Fault-clause-answered
returns-in-Fault-clause-answered g c =
    let why = c.in-Fault.fault in
    let told = answer_text (fault why) in
    (told, c.tell_fault.ensures, rw (c.in-Fault.is) (some_one c.args.self.now c.args.pass.now c.args.pass.now (requests.Fault why) c.args.later.now told (refl, refl)))
