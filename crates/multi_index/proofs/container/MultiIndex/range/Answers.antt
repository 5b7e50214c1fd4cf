use Rattle.std.proofs.Common.{◌≡◌, ◌∙◌, Ok, sym}
use Rattle.std.specs.Range.Bound.{bound_map}
use Rattle.std.proofs.lemmas.Result.{IfOk-weaker}
use Rattle.list_model.specs.Place.{range}
use Rattle.container_model.specs.State.{is_sorted_kind, list_at}
use Rattle.container_model.specs.Find.{found_range, probe_side}
use Rattle.linked_set.specs.Edges.{edge_of}
use Rattle.multi_index.proofs.Answered.{answered, if_mapped}
use Rattle.linked_set.proofs.Asked.{bounds_alone}
use Rattle.multi_index.proofs.container.MultiIndex.range.Goals as goal

pub range-requires : goal.range-requires
range-requires g c = bounds_alone c.self.inside.set c.self.inside.max c.self.inside.writes c.self.view_is g.E.Extract.does_fit c.args.index (bound_map (λ p. p.now) c.args.low) (bound_map (λ p. p.now) c.args.high) (c.requires (sym c.is_sorted.ensures ∙ c.if-not-is_sorted.false))

pub returns-clause-ok : goal.returns-clause-ok
returns-clause-ok g c =
    if_mapped (λ handles. found_range c.args.self.now c.args.index (edge_of (probe_side g.E.Extract.probe_order_of c.args.self.now c.args.index) (bound_map (λ p. p.now) c.args.low)) (edge_of (probe_side g.E.Extract.probe_order_of c.args.self.now c.args.index) (bound_map (λ p. p.now) c.args.high)) ≡ Ok handles.items)
    c.range.result c.map_err.result _ c.map_err.ensures.cases c.map_err.ensures.variant
    (IfOk-weaker c.range.result _ _
    (λ handles items.
    sym (answered is_sorted_kind c.args.index (λ s. range (edge_of (probe_side g.E.Extract.probe_order_of s c.args.index) (bound_map (λ p. p.now) c.args.low)) (edge_of (probe_side g.E.Extract.probe_order_of s c.args.index) (bound_map (λ p. p.now) c.args.high)) (list_at s.lists c.args.index))
    handles.items c.self.view_is (sym c.is_sorted.ensures ∙ c.if-not-is_sorted.false) items))
    c.range.ensures)
