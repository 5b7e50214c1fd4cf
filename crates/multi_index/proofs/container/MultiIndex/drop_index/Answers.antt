use Rattle.std.proofs.Common.{◌≡◌, ◌<◌, ◌∙◌, None, length, ap, sym, subst, arith}
use Rattle.std.specs.Prelude.{remove}
use Rattle.container_model.specs.State.{KeysMatch}
use Rattle.container_model.specs.Indices.{KeepsRest, drop_index_refusal, without_index}
use Rattle.container_model.proofs.Indexed.{IsState-unindexed}
use Rattle.linked_set.specs.Records.{state_of}
use Rattle.multi_index.proofs.Steps.{none_added, IsContainer-next}
use Rattle.multi_index.proofs.Allowed.{may_drop}
use Rattle.linked_set.proofs.Asked.{without_alone}
use Rattle.multi_index.proofs.container.MultiIndex.drop_index.Goals as goal

pub drop_index-requires-clause-several : goal.drop_index-requires-clause-several
drop_index-requires-clause-several g c =
    let s = state_of c.self.inside.set c.self.inside.max c.self.inside.writes in
    let none : drop_index_refusal s ≡ None = ap drop_index_refusal c.self.view_is ∙ (sym c.drop_index_refusal.ensures ∙ c.in_default.is) in
    let within : c.args.index < length s.specs = subst (λ t. c.args.index < length t.specs) (sym c.self.view_is) c.requires.index in
    let may = may_drop s (omega (arith, within)) none in
    may.0

pub drop_index-requires-clause-keys : goal.drop_index-requires-clause-keys
drop_index-requires-clause-keys g c = without_alone c.self.inside.set c.self.inside.max c.self.inside.writes c.self.view_is g.E.Extract.has_key g.E.Extract.order_of g.E.Extract.hash_of c.args.index c.args.keys c.requires

pub invariant_of-self : goal.invariant_of-self
invariant_of-self g c =
    let has_key = g.E.Extract.has_key in
    let order = g.E.Extract.order_of in
    let inside = c.self.inside in
    let s = state_of inside.set inside.max inside.writes in
    let none : drop_index_refusal s ≡ None = ap drop_index_refusal c.self.view_is ∙ (sym c.drop_index_refusal.ensures ∙ c.in_default.is) in
    let within : c.args.index < length s.specs = subst (λ t. c.args.index < length t.specs) (sym c.self.view_is) c.requires.index in
    let may = may_drop s (omega (arith, within)) none in
    let match = subst (λ t. KeysMatch (has_key c.args.keys) (remove t.specs c.args.index)) (sym c.self.view_is) c.requires.keys in
    let same = subst (λ t. KeepsRest (order t.keys) (order c.args.keys) t.specs c.args.index) (sym c.self.view_is) c.requires.orders in
    IsContainer-next inside.set c.drop_index.new.self inside.max inside.writes c.self.invariant (none_added c.drop_index.ensures.added) may.1 (c.drop_index.ensures.left inside.max inside.writes) (IsState-unindexed has_key order s c.self.invariant.state c.args.index c.args.keys within match same)

pub returns-clause-ok : goal.returns-clause-ok
returns-clause-ok g c = c.drop_index.ensures.left c.self.inside.max c.self.inside.writes ∙ ap (λ s. without_index s c.args.index c.args.keys) c.self.view_is
