use Rattle.std.proofs.Common.{◌∙◌, ap}
use Rattle.std.specs.Range.Bound.{bound_map}
use Rattle.list_model.specs.Place.{range}
use Rattle.container_model.specs.State.{list_at}
use Rattle.container_model.specs.Find.{probe_side}
use Rattle.linked_set.specs.Edges.{edge_of}
use Rattle.linked_set.specs.Iteration.{with_rows}
use Rattle.linked_set.proofs.Asked.{bounds_alone}
use Rattle.multi_index.proofs.container.MultiIndex.iter_range.Goals as goal

pub iter_range-requires : goal.iter_range-requires
iter_range-requires g c = bounds_alone c.self.inside.set c.self.inside.max c.self.inside.writes c.self.view_is g.E.Extract.does_fit c.args.index (bound_map (λ p. p.now) c.args.low) (bound_map (λ p. p.now) c.args.high) c.requires

pub returns : goal.returns
returns g c =
    c.iter_range.ensures
    ∙ ap (λ s. with_rows s (range (edge_of (probe_side g.E.Extract.probe_order_of s c.args.index) (bound_map (λ p. p.now) c.args.low)) (edge_of (probe_side g.E.Extract.probe_order_of s c.args.index) (bound_map (λ p. p.now) c.args.high)) (list_at s.lists c.args.index))) c.self.view_is
