use Rattle.std.proofs.Common.{ℕ, Option, length}
use Rattle.table_folder.specs.Disk.{Image, KeepsOthers}
use Rattle.table_folder.specs.Installing.{IsLog, LacksThese}
use Rattle.table_folder.specs.Settled.{Sees}
use Rattle.table_folder.proofs.Installed.{IsOnItsWay}
use Rattle.table_folder.proofs.installing.clear_logs.Given as goal

abbrev pub invariant-loop-begin : goal.invariant-loop-begin
invariant-loop-begin g l = record {
  others : KeepsOthers IsLog (g.F.Folder.seen l.fn.folder) (g.F.Folder.seen l.folder);
  on_the_way : (files : Image) → Sees (g.F.Folder.seen l.fn.folder) files → LacksThese (g.F.Folder.has l.fn.folder) files
      → (begin : Option ℕ) → IsOnItsWay files (g.F.Folder.seen l.folder) (g.F.Folder.has l.folder) l.rest begin;
}

abbrev pub decreases-loop-begin : goal.decreases-loop-begin
decreases-loop-begin g l = length l.rest
