use Rattle.std.proofs.Common.{◌+◌, ◌∙◌, ap, drop}
use Rattle.hash_index.specs.Spelled.{heads_of}
use Rattle.hash_index.specs.Chains.{first_head}
use Rattle.hash_index.proofs.Levels.{leads_within}
use Rattle.hash_index.proofs.Spelling.{after_node}
use Rattle.hash_index.proofs.HashIndex.after.Goals as goal

pub returns-in-Some : goal.returns-in-Some
returns-in-Some c = λ ages cs xs n ys h is.
    let i = c.args.self.now in
    let some = c.requires in
    let within = leads_within i c.args.link.tag some in
    (after_node cs i xs n ys c.args.link within h is).some c.in-Some.n c.in-Some.is

pub returns-in-None : goal.returns-in-None
returns-in-None c = λ ages cs xs n ys h is.
    let i = c.args.self.now in
    let some = c.requires in
    let within = leads_within i c.args.link.tag some in
    c.first_from.ensures ∙ (ap (λ b. first_head (drop (b + 1) (heads_of i))) c.chain.ensures.is ∙ (after_node cs i xs n ys c.args.link within h is).none c.in-None.is)
