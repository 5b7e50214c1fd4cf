use Rattle.std.proofs.Common.{◌∙◌, sym}
use Rattle.list_model.specs.Place.{lower}
use Rattle.container_model.specs.State.{is_sorted_kind, list_at}
use Rattle.container_model.specs.Find as find
use Rattle.multi_index.proofs.Answered.{answered}
use Rattle.linked_set.proofs.Asked.{fits_alone}
use Rattle.multi_index.proofs.container.MultiIndex.lower.Goals as goal

pub lower-requires : goal.lower-requires
lower-requires g c = fits_alone c.self.inside.set c.self.inside.max c.self.inside.writes c.self.view_is g.E.Extract.does_fit c.args.index is_sorted_kind c.args.probe.now (sym c.is_sorted.ensures ∙ c.if-is_sorted.true) (c.requires.fits (sym c.is_sorted.ensures ∙ c.if-is_sorted.true))

pub returns-then-is_sorted : goal.returns-then-is_sorted
returns-then-is_sorted g c =
    answered is_sorted_kind c.args.index (λ s. lower (find.probe_side g.E.Extract.probe_order_of s c.args.index c.args.probe.now) (list_at s.lists c.args.index)) c.lower.result c.self.view_is
    (sym c.is_sorted.ensures ∙ c.if-is_sorted.true) c.lower.ensures
