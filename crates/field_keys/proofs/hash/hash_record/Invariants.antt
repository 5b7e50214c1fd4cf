use Rattle.std.proofs.Common.{◌≡◌, drop, map}
use Rattle.std.specs.Prelude.{fold}
use Rattle.std.specs.Hash.FoldHasher as folding
use Rattle.key_extract.specs.Hashes.{row_writes}
use Rattle.field_keys.specs.Fields.{part_of}
use Rattle.field_keys.proofs.hash.hash_record.Given as goal

abbrev pub invariant-loop-part : goal.invariant-loop-part
invariant-loop-part g l = fold folding.write l.state (row_writes (map part_of (drop l.part-index l.parts)) (g.R.Fields.row_of l.row)) ≡ fold folding.write folding.initial (row_writes (map part_of l.parts) (g.R.Fields.row_of l.row))
