use Rattle.std.proofs.Common.{◌≡◌, true, take}
use Rattle.std.specs.List.{AllByRecursion}
use Rattle.container_model.specs.Find.{is_live}
use Rattle.linked_set.specs.Seen.{seen}
use Rattle.linked_set.proofs.rearrange.all_live.Given as goal

abbrev pub invariant-loop-handle : goal.invariant-loop-handle
invariant-loop-handle g l = AllByRecursion (λ h. is_live (seen (g.S.Nodes.parts l.set) 0 0) h ≡ true) (take l.handle-index l.handles)
