use Rattle.std.proofs.Common.{◌∙◌, refl, sym, subst}
use Rattle.std.specs.Prelude.{IsTrue}
use Rattle.container_model.specs.State.{has_places_kind, is_random_kind}
use Rattle.container_model.specs.Find.{kind_at, place_or_end}
use Rattle.multi_index.proofs.Answered.{answered_at, random_has_places}
use Rattle.multi_index.proofs.container.MultiIndex.place_of.Goals as goal

pub place_of-requires : goal.place_of-requires
place_of-requires g c = subst (λ s. IsTrue (has_places_kind (kind_at s c.args.index))) (sym c.self.view_is) (random_has_places _ (sym c.is_random.ensures ∙ c.if-is_random.true))

pub returns-then-is_random : goal.returns-then-is_random
returns-then-is_random g c =
    answered_at is_random_kind c.args.index (λ s position. place_or_end s c.args.index position) c.args.handle c.place_of.result c.self.view_is (sym c.is_random.ensures ∙ c.if-is_random.true) refl c.place_of.ensures
