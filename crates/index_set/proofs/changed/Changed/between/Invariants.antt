use Rattle.std.proofs.Common.{◌≡◌, ℕ, ◌<◌, ◌≤◌, true, length, get_or}
use Rattle.index_set.specs.Changed.{differs}
use Rattle.index_set.proofs.changed.Changed.between.Given as goal

abbrev pub invariant-loop-index : goal.invariant-loop-index
invariant-loop-index g l = record {
  eight : length l.at ≡ 8;
  each : (j : ℕ) → (j < l.index → get_or l.at j true ≡ differs (g.E.Extract.order_of l.keys) l.specs l.after l.before j) × (l.index ≤ j → get_or l.at j true ≡ true);
}
