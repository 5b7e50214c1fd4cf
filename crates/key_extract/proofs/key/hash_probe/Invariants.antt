use Rattle.std.proofs.Common.{◌≡◌, drop}
use Rattle.std.specs.Prelude.{fold}
use Rattle.std.specs.Hash.FoldHasher as folding
use Rattle.key_extract.specs.Hashes.{probe_writes}
use Rattle.key_extract.proofs.key.hash_probe.Given as goal

abbrev pub invariant-loop-cell : goal.invariant-loop-cell
invariant-loop-cell l = fold folding.write l.state (probe_writes (drop l.cell-index l.cells)) ≡ fold folding.write folding.initial (probe_writes l.cells)
