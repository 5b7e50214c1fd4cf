use Rattle.table_schema.proofs.Placed.{Stands}
use Rattle.table_schema.proofs.resolve.tables.Given as goal

abbrev pub invariant-loop-place : goal.invariant-loop-place
invariant-loop-place l = Stands l.drafts l.place l.tables.items
