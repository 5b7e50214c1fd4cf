use Rattle.std.proofs.Common.{length, ℕ, Option}
use Rattle.table_folder.specs.Compacting.{CleanBound}
use Rattle.table_folder.specs.Disk.{IsIn}
use Rattle.table_folder.specs.Settled.{MayLeave, Runs}
use Rattle.table_folder.proofs.spent.remove_logs.Given as goal

abbrev pub invariant-loop-begin : goal.invariant-loop-begin
invariant-loop-begin g l = record {
  left : (begin : Option ℕ) → IsIn begin l.rest → IsIn begin l.fn.spent;
  runs : Runs g.F.Folder.was g.F.Folder.has g.F.Folder.moment g.F.Folder.left_since l.fn.folder l.folder (CleanBound (MayLeave (g.F.Folder.was l.fn.folder) (g.F.Folder.has l.fn.folder)) l.fn.spent);
}

abbrev pub decreases-loop-begin : goal.decreases-loop-begin
decreases-loop-begin g l = length l.rest
