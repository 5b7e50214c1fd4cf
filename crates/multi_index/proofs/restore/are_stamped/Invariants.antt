use Rattle.multi_index.proofs.Restored.{HasSeen}
use Rattle.multi_index.proofs.restore.are_stamped.Given as goal

abbrev pub invariant-loop-entry : goal.invariant-loop-entry
invariant-loop-entry g l = HasSeen l.writes l.entries l.entry-index l.last
