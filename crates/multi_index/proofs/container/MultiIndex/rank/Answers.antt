use Rattle.std.proofs.Common.{◌∙◌, ap, refl, sym, subst}
use Rattle.std.specs.Prelude.{IsTrue}
use Rattle.container_model.specs.State.{has_places_kind, is_ranked_kind}
use Rattle.container_model.specs.Find.{kind_at, place_or_end}
use Rattle.linked_set.specs.Records.{state_of}
use Rattle.multi_index.proofs.Answered.{answered_at, answered_end, as_many, ranked_has_places}
use Rattle.linked_set.proofs.There.{index_there}
use Rattle.multi_index.proofs.container.MultiIndex.rank.Goals as goal

pub place_of-requires : goal.place_of-requires
place_of-requires g c = subst (λ s. IsTrue (has_places_kind (kind_at s c.args.index))) (sym c.self.view_is) (ranked_has_places _ (sym c.is_ranked.ensures ∙ c.if-not-is_ranked.false))

pub returns-in-Some : goal.returns-in-Some
returns-in-Some g c =
    answered_at is_ranked_kind c.args.index (λ s position. place_or_end s c.args.index position) c.in-Some.handle c.place_of.result c.self.view_is (sym c.is_ranked.ensures ∙ c.if-not-is_ranked.false) c.in-Some.is c.place_of.ensures

pub returns-in-None : goal.returns-in-None
returns-in-None g c =
    let s = state_of c.self.inside.set c.self.inside.max c.self.inside.writes in
    let within = index_there is_ranked_kind s c.args.index refl (ap (λ t. is_ranked_kind (kind_at t c.args.index)) c.self.view_is ∙ (sym c.is_ranked.ensures ∙ c.if-not-is_ranked.false)) in
    answered_end is_ranked_kind c.args.index (λ t position. place_or_end t c.args.index position) c.len.result c.self.view_is (sym c.is_ranked.ensures ∙ c.if-not-is_ranked.false) c.in-None.is
    (c.len.ensures ∙ as_many (g.E.Extract.order_of s.keys) s c.args.index c.self.invariant.state.indices within)
