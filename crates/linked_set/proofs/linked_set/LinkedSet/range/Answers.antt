use Rattle.std.proofs.Common.{◌++◌, ◌∷◌, [], ◌∙◌, map, ap, append-nil, append_assoc, sym}
use Rattle.std.specs.Range.Bound.{bound_map}
use Rattle.container_model.specs.Find.{probe_side}
use Rattle.linked_set.specs.Edges.{edge_of}
use Rattle.linked_set.specs.Records.{alone}
use Rattle.linked_set.proofs.Rows.{handles_between}
use Rattle.linked_set.proofs.linked_set.LinkedSet.range.Goals as goal

pub loop-handle-init : goal.loop-handle-init
loop-handle-init g c = ap (λ l. l ++ map (λ row. row.0) c.iter_range-left.result) c.new-handles.ensures.items

pub loop-handle-preserved : goal.loop-handle-preserved
loop-handle-preserved g c =
    let met = c.loop-handle.handles.items in
    ap (λ l. l ++ map (λ row. row.0) c.next.new.self) c.in_ok-push.ensures.items
    ∙ append_assoc met (c.in-Some.handle ∷ []) (map (λ row. row.0) c.next.new.self)
    ∙ ap (λ l. met ++ map (λ row. row.0) l) (sym c.in-Some.ensures.steps)
    ∙ c.loop-handle.invariant

pub returns : goal.returns
returns g c =
    let met = c.loop-handle.handles.items in
    let side = probe_side g.E.Extract.probe_order_of (alone c.args.self.now) c.args.index in
    sym (append-nil met)
    ∙ ap (λ l. met ++ map (λ row. row.0) l) (sym c.in_default.ensures.steps.0)
    ∙ c.loop-handle.invariant
    ∙ ap (map (λ row. row.0)) c.iter_range-left.ensures
    ∙ handles_between c.self.inside.set c.self.inside.slots.items c.self.invariant.linked c.self.view_is c.args.index (edge_of side (bound_map (λ p. p.now) c.args.low)) (edge_of side (bound_map (λ p. p.now) c.args.high))
