use Rattle.std.proofs.Common.{◌≡◌, map, take}
use Rattle.field_keys.proofs.index.specs_of.Given as goal

abbrev pub invariant-loop-index : goal.invariant-loop-index
invariant-loop-index l = l.specs.items ≡ map (λ i. i.0) (take l.index-index l.indices)
