use Rattle.table_schema.specs.Resolved.{index_for}
use Rattle.table_schema.proofs.Readings.{Read}
use Rattle.table_schema.proofs.resolve.indices.Given as goal

abbrev pub invariant-loop-draft : goal.invariant-loop-draft
invariant-loop-draft l = Read (index_for l.columns) l.drafts l.draft-index l.indices.items
