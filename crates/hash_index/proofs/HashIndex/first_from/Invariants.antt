use Rattle.std.proofs.Common.{◌≡◌, drop}
use Rattle.hash_index.specs.Spelled.{heads_of}
use Rattle.hash_index.specs.Chains.{first_head}
use Rattle.hash_index.proofs.HashIndex.first_from.Given as goal

abbrev pub invariant-loop-later : goal.invariant-loop-later
invariant-loop-later l = first_head (drop l.later (heads_of l.self)) ≡ first_head (drop l.chain (heads_of l.self))
