use Rattle.std.proofs.Common.{length}
use Rattle.table_folder.proofs.older.refuse_all_longer.Given as goal

abbrev pub decreases-loop-begin : goal.decreases-loop-begin
decreases-loop-begin g l = length l.rest
