use Rattle.std.proofs.Common.{◌∙◌, ap}
use Rattle.std.specs.Prelude.{filter}
use Rattle.std.specs.Ordering.{is_eq}
use Rattle.container_model.specs.State.{is_sorted_kind, list_at}
use Rattle.container_model.specs.Find.{probe_side}
use Rattle.linked_set.specs.Iteration.{with_rows}
use Rattle.linked_set.proofs.Asked.{fits_alone}
use Rattle.multi_index.proofs.container.MultiIndex.iter_equal.Goals as goal

pub iter_equal-requires : goal.iter_equal-requires
iter_equal-requires g c = fits_alone c.self.inside.set c.self.inside.max c.self.inside.writes c.self.view_is g.E.Extract.does_fit c.args.index is_sorted_kind c.args.probe.now c.requires.kind c.requires.low_fits

pub returns : goal.returns
returns g c =
    c.iter_equal.ensures ∙ ap (λ s. with_rows s (filter (λ h. is_eq (probe_side g.E.Extract.probe_order_of s c.args.index c.args.probe.now h)) (list_at s.lists c.args.index))) c.self.view_is
