use Rattle.std.proofs.Common.{◌≡◌, drop}
use Rattle.std.specs.Prelude.{fold}
use Rattle.std.specs.Hash.FoldHasher as folding
use Rattle.key_extract.specs.Hashes.{row_writes}
use Rattle.key_extract.proofs.key.hash_row.Given as goal

abbrev pub invariant-loop-part : goal.invariant-loop-part
invariant-loop-part l = fold folding.write l.state (row_writes (drop l.part-index l.parts) l.row) ≡ fold folding.write folding.initial (row_writes l.parts l.row)
