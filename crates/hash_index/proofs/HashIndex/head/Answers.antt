use Rattle.std.proofs.Common.{◌≡◌, Some, option_and_then, sym, ap, ◌∙◌, subst, arith}
use Rattle.std.specs.List.{slice_get}
use Rattle.std.proofs.lemmas.Bool.{eqb-true}
use Rattle.hash_index.specs.Heads.{start_in}
use Rattle.hash_index.specs.Spelled.{all_of, leads_to}
use Rattle.hash_index.proofs.Spelling.{none_long}
use Rattle.hash_index.proofs.HashIndex.head.Goals as goal

pub returns-then-is_empty-clause-first : goal.returns-then-is_empty-clause-first
returns-then-is_empty-clause-first c =
    let i = c.args.self.now in
    let none = eqb-true i.chains.len 0 (sym c.is_empty.ensures ∙ c.if-is_empty.true) in
    c.none.ensures.first ∙ sym (ap (λ hs. option_and_then (start_in c.args.hash) (slice_get hs (leads_to i c.args.hash))) (none_long (all_of i) (omega (arith, none, i.chains.ok))))

pub returns-clause-first : goal.returns-clause-first
returns-clause-first c = c.seen.ensures.first ∙ ap (λ b. option_and_then (start_in c.args.hash) (slice_get (all_of c.args.self.now) b)) c.chain.ensures.is

pub returns-clause-head : goal.returns-clause-head
returns-clause-head c = λ some. subst (λ b. slice_get (all_of c.args.self.now) b ≡ Some c.seen.result) c.chain.ensures.is (c.seen.ensures.head some)
