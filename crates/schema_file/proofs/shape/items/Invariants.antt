use Rattle.toml.specs.View.{view}
use Rattle.table_schema.proofs.Readings.{Read}
use Rattle.schema_file.proofs.shape.items.Given as goal

abbrev pub invariant-loop-value : goal.invariant-loop-value
invariant-loop-value g l = Read (λ v. g.T.Item.read_of (view v)) l.value-items l.value-index l.items.items
