-- A stream of lines on tables with their logs, and where it stops.
use Rattle.std.proofs.Common.{ℕ, List, Err, ◌∙◌}
use Rattle.table_reply.specs.Buffer.{Buffer}
use Rattle.kept_tables.specs.Lines.{Ended, Feeding, Halts, KeptData}
use Rattle.kept_tables.specs.declared.stream.StopWhy.{StopWhy}
use Rattle.kept_tables.specs.declared.stream.StopWhy.TheVariants as whys

-- the line is not told that is ended next
pub halts : (why : StopWhy) (old : KeptData) (out : Buffer) (bytes : List ℕ) (mid new : KeptData) (between out' : Buffer) → Feeding old out bytes mid.tables mid.unfinished between
    → Ended (Err why) mid between new out' → Halts why old out bytes new out'
halts whys.Memory old out bytes mid new between out' fed end = rw (end.0, end.1, end.2) (fed, end.3, end.4)
halts whys.Over old out bytes mid new between out' fed end = (mid.tables, mid.unfinished, (fed.0, fed.1, end.0 ∙ fed.2), end.1, end.2)
