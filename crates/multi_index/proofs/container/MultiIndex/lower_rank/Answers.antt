use Rattle.std.proofs.Common.{◌∙◌, sym}
use Rattle.list_model.specs.Place.{below}
use Rattle.container_model.specs.State.{is_ranked_kind, list_at}
use Rattle.container_model.specs.Find as find
use Rattle.multi_index.proofs.Answered.{answered}
use Rattle.linked_set.proofs.Asked.{fits_alone}
use Rattle.multi_index.proofs.container.MultiIndex.lower_rank.Goals as goal

pub lower_rank-requires : goal.lower_rank-requires
lower_rank-requires g c = fits_alone c.self.inside.set c.self.inside.max c.self.inside.writes c.self.view_is g.E.Extract.does_fit c.args.index is_ranked_kind c.args.probe.now (sym c.is_ranked.ensures ∙ c.if-is_ranked.true) (c.requires.fits (sym c.is_ranked.ensures ∙ c.if-is_ranked.true))

pub returns-then-is_ranked : goal.returns-then-is_ranked
returns-then-is_ranked g c =
    answered is_ranked_kind c.args.index (λ s. below (find.probe_side g.E.Extract.probe_order_of s c.args.index c.args.probe.now) (list_at s.lists c.args.index)) c.lower_rank.result c.self.view_is
    (sym c.is_ranked.ensures ∙ c.if-is_ranked.true) c.lower_rank.ensures
