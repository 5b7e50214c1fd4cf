use Rattle.std.proofs.Common.{arith}
use Rattle.node_store.specs.ByNode.{column_of}
use Rattle.hash_index.proofs.Growing.{same_sound}
use Rattle.hash_index.proofs.Grown.{both_grown, same_grown}
use Rattle.hash_index.proofs.HashIndex.add_bucket.Goals as goal

pub add_two-requires-clause-chain : goal.add_two-requires-clause-chain
add_two-requires-clause-chain g c = same_sound (column_of c.args.store.now) c.args.self.now c.raise_level.new.self c.raise_level.ensures.same c.requires.chain

pub grow_twice-requires-clause-chain : goal.grow_twice-requires-clause-chain
grow_twice-requires-clause-chain g c = same_sound (column_of c.args.store.now) c.args.self.now c.raise_level.new.self c.raise_level.ensures.same c.requires.chain

pub returns-then-len-self : goal.returns-then-len-self
returns-then-len-self g c = same_grown 4 _ c.raise_level.new.self _ _ _ c.requires.chain c.raise_level.ensures.same c.raise_level.ensures.chains
    (both_grown 2 2 _ _ _ _ _ _ c.add_two.ensures.grown c.add_two-then-len-self.ensures.grown (omega (arith, c.add_two.ensures.grown.count)))

pub returns-else-not-is_empty : goal.returns-else-not-is_empty
returns-else-not-is_empty g c = same_grown 4 _ c.raise_level.new.self _ _ _ c.requires.chain c.raise_level.ensures.same c.raise_level.ensures.chains
    (both_grown 2 2 _ _ _ _ _ _ c.grow_twice.ensures c.grow_twice-else-not-is_empty.ensures (omega (arith, c.grow_twice.ensures.count)))
