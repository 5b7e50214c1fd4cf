use Rattle.index_tests.proofs.Framing.{columns_added, lacks_added}
use Rattle.index_tests.proofs.every.add.Goals as goal

pub put_into_each-requires-clause-columns : goal.put_into_each-requires-clause-columns
put_into_each-requires-clause-columns g c = columns_added c.args.store.now c.add.new.self c.in-Ok.n c.args.value c.in-Ok.ensures.added c.args.indices.now c.requires

pub put_into_each-requires-clause-new : goal.put_into_each-requires-clause-new
put_into_each-requires-clause-new g c = lacks_added c.args.store.now c.add.new.self c.in-Ok.n c.args.value c.in-Ok.ensures.added 0 c.args.indices.now c.requires.sound
