use Rattle.std.proofs.Common.{◌-◌, ◌≤◌, ◌%◌, ◌*◌, ap, sym, ◌∙◌, arith}
use Rattle.hash_index.proofs.Levels.{leads_upper}
use Rattle.hash_index.proofs.HashIndex.chain.Goals as goal

pub returns-else-chain-len-clause-is : goal.returns-else-chain-len-clause-is
returns-else-chain-len-clause-is c =
    let i = c.args.self.now in
    let le : i.chains.len ≤ c.args.hash % (i.level * 2) = omega (arith, c.if-chain-len.false, c.remainder-chain.ensures, c.len.ensures) in
    ap (λ k. k - i.level) c.remainder-chain.ensures ∙ sym (leads_upper i c.args.hash c.requires le)
