use Rattle.std.proofs.Common.{take}
use Rattle.multi_index.specs.Restored.{AreWithin}
use Rattle.multi_index.proofs.restore.are_within.Given as goal

abbrev pub invariant-loop-entry : goal.invariant-loop-entry
invariant-loop-entry g l = AreWithin (take l.entry-index l.entries) l.max
