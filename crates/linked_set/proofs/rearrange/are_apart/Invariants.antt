use Rattle.std.proofs.Common.{◌≡◌, ℕ, take}
use Rattle.std.specs.Prelude.{nat_eq}
use Rattle.std.specs.List.{IsDistinct, list_any}
use Rattle.std.specs.Ordering.{nat_cmp}
use Rattle.std.specs.BTreeSet as sorted
use Rattle.linked_set.proofs.Rearranged.{slots_of}
use Rattle.linked_set.proofs.rearrange.are_apart.Given as goal

abbrev pub invariant-loop-handle : goal.invariant-loop-handle
invariant-loop-handle l = record {
  has : (q : ℕ) → sorted.contains nat_cmp l.seen q ≡ list_any (nat_eq q) (take l.handle-index (slots_of l.handles));
  apart : IsDistinct nat_eq (take l.handle-index (slots_of l.handles));
}
