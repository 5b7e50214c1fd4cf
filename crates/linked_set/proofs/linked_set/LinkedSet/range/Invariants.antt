use Rattle.std.proofs.Common.{◌≡◌, ◌++◌, length, map}
use Rattle.linked_set.proofs.linked_set.LinkedSet.range.Given as goal

abbrev pub invariant-loop-handle : goal.invariant-loop-handle
invariant-loop-handle g l = l.handles.items ++ map (λ row. row.0) l.left ≡ map (λ row. row.0) l.initial.left

abbrev pub decreases-loop-handle : goal.decreases-loop-handle
decreases-loop-handle g l = length l.left
