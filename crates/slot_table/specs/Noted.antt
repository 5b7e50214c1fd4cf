-- How a heap notes the free slots.
use Rattle.std.specs.Prelude.{◌≡◌, ℕ, ◌≤◌, ◌==◌, Bool, false, cond, List, length, count_by, slice_get, Option}
use Rattle.std.specs.Option.{is_none, option_map_or}
use Rattle.std.specs.Ordering.{nat_cmp}
use Rattle.std.specs.BinaryHeap.{IsHeap}
use Rattle.std.specs.declared.cmp.Reverse.{Reverse}

-- whether the slot lies before the end and is free
abbrev pub is_gap : {T : Type 0} → List (Option T) → ℕ → Bool
is_gap items slot = option_map_or is_none (slice_get items slot) false

-- how often a slot is noted
abbrev pub times : ℕ → List (Reverse ℕ) → ℕ
times slot noted = count_by (λ r. slot == r.0) noted

-- a heap, the least slot first, that notes each free slot before the end once, and has room for all slots
pub record IsNoted {T : Type 0} (items : List (Option T)) (noted : List (Reverse ℕ)) (capacity : ℕ) : Type 0 where
  pub heap_order : IsHeap (λ (x y : Reverse ℕ). nat_cmp y.0 x.0) noted
  pub once : (slot : ℕ) → times slot noted ≡ cond (is_gap items slot) 1 0
  pub count : length noted ≡ count_by is_none items
  pub room : length items ≤ capacity
