use Rattle.hash_index.proofs.Rising.{behind_first}
use Rattle.hash_index.proofs.HashIndex.place.Goals as goal

pub place_near-requires-clause-last : goal.place_near-requires-clause-last
place_near-requires-clause-last g c = (c.requires.last c.in-Some.end c.in-Some.is).0

pub place_near-requires-clause-rises : goal.place_near-requires-clause-rises
place_near-requires-clause-rises g c = (c.requires.last c.in-Some.end c.in-Some.is).1

pub returns-in-None : goal.returns-in-None
returns-in-None g c = behind_first _ c.args.first c.args.n c.requires.first
