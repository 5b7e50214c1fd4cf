use Rattle.any_index.specs.Keyed.{marks_of}
use Rattle.index_tests.proofs.Alone.{lone_steps}
use Rattle.index_tests.proofs.lone.make_room.Goals as goal

pub returns-clause-lone : goal.returns-clause-lone
returns-clause-lone g c =
    let new = c.reserve_one.ensures in
    let keyed = new.keyed (g.E.Extract.order_of c.args._keys.now) (marks_of g.E.Extract c.args._keys.now) c.requires.keyed in
    lone_steps g.E.Extract c.args._keys.now c.args.store.now c.reserve_one.new.store c.args.index.now c.requires c.reserve_one.new.self new.sound new.rest keyed
