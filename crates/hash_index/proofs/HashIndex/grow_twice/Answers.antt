use Rattle.std.proofs.Common.{arith}
use Rattle.hash_index.proofs.Grown.{both_grown}
use Rattle.hash_index.proofs.HashIndex.grow_twice.Goals as goal

pub returns : goal.returns
returns g c = both_grown 1 1 _ _ _ _ _ _ c.grow.ensures c.grow-2.ensures (omega (arith, c.grow.ensures.count))
