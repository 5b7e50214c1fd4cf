use Rattle.std.proofs.Common.{◌≡◌, take}
use Rattle.table_schema.proofs.table.copy_indices.Given as goal

abbrev pub invariant-loop-index : goal.invariant-loop-index
invariant-loop-index l = l.copies.items ≡ take l.index-index l.indices
