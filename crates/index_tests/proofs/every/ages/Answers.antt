use Rattle.index_tests.proofs.Framing.{listed_node}
use Rattle.index_tests.proofs.every.ages.Goals as goal

pub age-requires : goal.age-requires
age-requires g c = listed_node c.args.store.now c.args.index.now c.in-Some.n c.requires (c.loop.invariant _ c.in-Some.is)
