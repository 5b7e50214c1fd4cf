use Rattle.std.proofs.Common.{length}
use Rattle.table_folder.specs.Disk.{Image, KeepsOthers}
use Rattle.table_folder.specs.Retiring.{IsPlain, RetireBound}
use Rattle.table_folder.specs.Settled.{MayLeave, Runs, Sees}
use Rattle.table_folder.proofs.Retired.{AreOnTheWay}
use Rattle.table_folder.proofs.retiring.retire.Given as goal

abbrev pub invariant-loop-begin : goal.invariant-loop-begin
invariant-loop-begin g l = record {
  runs : Runs g.F.Folder.was g.F.Folder.has g.F.Folder.moment g.F.Folder.left_since l.fn.folder l.folder (RetireBound (MayLeave (g.F.Folder.was l.fn.folder) (g.F.Folder.has l.fn.folder)));
  others : KeepsOthers IsPlain (g.F.Folder.seen l.fn.folder) (g.F.Folder.seen l.folder);
  on_the_way : (files : Image) → Sees (g.F.Folder.seen l.fn.folder) files → AreOnTheWay l.fn.number files (g.F.Folder.seen l.folder) l.rest;
}

abbrev pub decreases-loop-begin : goal.decreases-loop-begin
decreases-loop-begin g l = length l.rest
