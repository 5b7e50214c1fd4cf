use Rattle.std.proofs.Common.{◌≡◌, map, take}
use Rattle.table_records.proofs.indices.keys_of.Given as goal

abbrev pub invariant-loop-index : goal.invariant-loop-index
invariant-loop-index l = l.keys.items ≡ map (λ i. i.key) (take l.index-index l.indices)
