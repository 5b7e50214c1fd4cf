use Rattle.std.proofs.Common.{◌≡◌, true, sym, subst, ◌∙◌}
use Rattle.std.specs.List.{AllByRecursion}
use Rattle.container_model.specs.Find.{is_live}
use Rattle.linked_set.specs.Seen.{seen}
use Rattle.linked_set.proofs.Rearranged.{All-take_more, take_past, all_pass}
use Rattle.linked_set.proofs.rearrange.all_live.Goals as goal

pub loop-handle-preserved : goal.loop-handle-preserved
loop-handle-preserved g c =
    All-take_more (λ h. is_live (seen (g.S.Nodes.parts c.args.set.now) 0 0) h ≡ true) c.args.handles.now c.loop-handle.handle-index (record { slot = 0; stamp = 0 }) c.loop-handle-test.true c.loop-handle.invariant
    (sym c.is_live.ensures ∙ c.if-not-is_live.false)

pub returns : goal.returns
returns g c =
    sym (all_pass (λ h. is_live (seen (g.S.Nodes.parts c.args.set.now) 0 0) h) c.args.handles.now
    (subst (AllByRecursion (λ h. is_live (seen (g.S.Nodes.parts c.args.set.now) 0 0) h ≡ true)) (take_past c.args.handles.now c.loop-handle.handle-index c.loop-handle-test.false) c.loop-handle.invariant))
