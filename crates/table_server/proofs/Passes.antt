-- The passes of a serving.
use Rattle.std.proofs.Common.{◌≡◌, ℕ, length}
use Rattle.std.proofs.lemmas.List.FromFn.{length-map-range_with_len}
use Rattle.shared_tables.specs.Pass.{fresh_pass, fresh_passes}

-- there is one for each worker
pub fresh_count : (tables workers : ℕ) → length (fresh_passes tables workers) ≡ workers
fresh_count tables workers = length-map-range_with_len (fresh_pass tables) 0 workers
