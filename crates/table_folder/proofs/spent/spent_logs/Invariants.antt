use Rattle.std.proofs.Common.{length}
use Rattle.table_folder.specs.Compacting.{AreSpent}
use Rattle.table_folder.specs.Disk.{AreThere}
use Rattle.table_folder.specs.declared.name.FileName.TheVariants.{Log}
use Rattle.table_folder.proofs.Earlier.{AreLookedAt}
use Rattle.table_folder.proofs.spent.spent_logs.Given as goal

abbrev pub invariant-loop-begin : goal.invariant-loop-begin
invariant-loop-begin g l = record {
  spent : AreSpent l.fn.declared l.fn.last l.fn.state (g.F.Folder.seen l.fn.folder) l.spent.items;
  there : AreThere Log (g.F.Folder.seen l.fn.folder) l.rest;
  looked_at : AreLookedAt l.fn.declared l.fn.last l.fn.state (g.F.Folder.seen l.fn.folder) l.rest;
}

abbrev pub decreases-loop-begin : goal.decreases-loop-begin
decreases-loop-begin g l = length l.rest
