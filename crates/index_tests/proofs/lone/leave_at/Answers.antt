use Rattle.any_index.specs.Keyed.{marks_of}
use Rattle.any_index.proofs.Laws.{IsKeyedBut_from}
use Rattle.index_tests.proofs.Alone.{lone_steps}
use Rattle.index_tests.proofs.lone.leave_at.Goals as goal

pub returns-clause-lone : goal.returns-clause-lone
returns-clause-lone g c =
    let order = g.E.Extract.order_of c.args.keys.now in
    let marks = marks_of g.E.Extract c.args.keys.now in
    let but = IsKeyedBut_from order marks c.args.store.now c.args.index.now c.in-Some.n c.requires.keyed in
    lone_steps g.E.Extract c.args.keys.now c.args.store.now c.leave.new.store c.args.index.now c.requires c.leave.new.self c.leave.ensures.sound c.leave.ensures.rest (c.leave.ensures.keyed order marks but)
