use Rattle.std.proofs.Common.{◌≡◌, drop, map}
use Rattle.std.specs.Prelude.{fold}
use Rattle.std.specs.Hash.FoldHasher as folding
use Rattle.key_extract.specs.Hashes.{probe_writes}
use Rattle.field_keys.specs.Fields.{part_of}
use Rattle.field_keys.specs.Values.{value_cell}
use Rattle.field_keys.specs.Sought.{padded}
use Rattle.field_keys.proofs.hash.hash_values.Given as goal

abbrev pub invariant-loop-place : goal.invariant-loop-place
invariant-loop-place l =
    fold folding.write l.state (probe_writes (padded (map part_of (drop l.place l.parts)) (drop l.place (map value_cell l.values))))
    ≡ fold folding.write folding.initial (probe_writes (padded (map part_of l.parts) (map value_cell l.values)))
