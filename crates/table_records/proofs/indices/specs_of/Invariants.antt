use Rattle.std.proofs.Common.{◌≡◌, map, take}
use Rattle.table_terms.specs.Table.{spec_of}
use Rattle.table_records.proofs.indices.specs_of.Given as goal

abbrev pub invariant-loop-index : goal.invariant-loop-index
invariant-loop-index l = l.specs.items ≡ map spec_of (take l.index-index l.indices)
