use Rattle.std.proofs.Common.{◌≡◌, ℕ, ◌<◌, ◌==◌, true}
use Rattle.std.specs.List.{list_any}
use Rattle.any_index.specs.Spelled.{col_of}
use Rattle.index_set.proofs.build.free_column.Given as goal

abbrev pub invariant-loop-column : goal.invariant-loop-column
invariant-loop-column l = record { taken : (c : ℕ) → c < l.column → list_any (λ i. col_of i == c) l.indices ≡ true }
