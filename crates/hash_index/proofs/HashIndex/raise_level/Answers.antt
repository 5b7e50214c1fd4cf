use Rattle.std.proofs.Common.{◌≡◌, ◌<◌, ◌*◌, refl, ap, sym, ◌∙◌, arith}
use Rattle.hash_index.specs.LinearHashing.{chain_of}
use Rattle.hash_index.proofs.Masks.{doubled}
use Rattle.hash_index.proofs.Levels.{next_level}
use Rattle.hash_index.proofs.HashIndex.raise_level.Goals as goal

pub invariant_of-self-clause-masked : goal.invariant_of-self-clause-masked
invariant_of-self-clause-masked c =
    let some : 0 < c.args.self.now.level * 2 = omega (arith, c.args.self.now.some_level) in
    doubled (c.args.self.now.level * 2) some c.args.self.now.masked

pub returns-then-len-self-clause-same : goal.returns-then-len-self-clause-same
returns-then-len-self-clause-same c =
    let i = c.args.self.now in
    let full : i.chains.len ≡ i.level * 2 = omega (arith, c.if-len-self.true, c.len.ensures) in
    record {
      chains = refl;
      len = refl;
      col = refl;
      index = refl;
      leads = λ hash. ap (λ k. chain_of (i.level * 2) k hash) full ∙ (next_level i.level hash i.some_level ∙ sym (ap (λ k. chain_of i.level k hash) full));
    }
