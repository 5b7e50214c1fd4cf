use Rattle.std.proofs.Common.{arith}
use Rattle.hash_index.proofs.Grown.{both_grown}
use Rattle.hash_index.proofs.HashIndex.add_two.Goals as goal

pub returns-clause-grown : goal.returns-clause-grown
returns-clause-grown g c = both_grown 1 1 _ _ _ _ _ _ c.add_chain.ensures.grown c.add_chain-2.ensures.grown (omega (arith, c.add_chain.ensures.grown.count))
