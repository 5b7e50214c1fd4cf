use Rattle.std.proofs.Common.{◌∙◌, slice_get, sym}
use Rattle.container_model.specs.State.{has_places_kind, list_at}
use Rattle.multi_index.proofs.Answered.{answered}
use Rattle.multi_index.proofs.container.MultiIndex.nth.Goals as goal

pub returns-then-has_places : goal.returns-then-has_places
returns-then-has_places g c =
    answered has_places_kind c.args.index (λ s. slice_get (list_at s.lists c.args.index) c.args.n) c.nth.result c.self.view_is (sym c.has_places.ensures ∙ c.if-has_places.true) c.nth.ensures
