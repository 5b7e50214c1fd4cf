use Rattle.std.proofs.Common.{◌≡◌, ℕ, ◌<◌, ◌≤◌, length, get_or}
use Rattle.any_index.specs.declared.index.AnyIndex.{AnyIndex}
use Rattle.index_set.specs.Dropped.{IsRenumbered}
use Rattle.index_set.proofs.drop_index.renumber_each.Given as goal

abbrev pub invariant-loop-index : goal.invariant-loop-index
invariant-loop-index g l = record {
  count : length l.indices.items ≡ length l.initial.indices.items;
  done : (j : ℕ) (d : AnyIndex) → j < l.index → j < length l.initial.indices.items → IsRenumbered l.store j (get_or l.initial.indices.items j d) (get_or l.indices.items j d);
  rest : (j : ℕ) (d : AnyIndex) → l.index ≤ j → get_or l.indices.items j d ≡ get_or l.initial.indices.items j d;
}
