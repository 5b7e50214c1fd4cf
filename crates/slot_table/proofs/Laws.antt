-- The least free slot, and what lies in the slots after a change.
use Rattle.std.proofs.Common.{◌≡◌, ◌≢◌, ℕ, zero, suc, ◌+◌, ◌<◌, ◌≤◌, ◌==◌, cond, List, [], ◌∷◌, length, Option, Some, None, refl, arith}
use Rattle.slot_table.specs.Slots.{item_at, first_free, with_item}
use Rattle.slot_table.proofs.Gaps.{suc_is_not_zero, zero_is_not_suc, same_suc}

module _ {T : Type 0} where
  -- a change is of one slot alone
  pub item_at-with_item : (items : List (Option T)) (slot : ℕ) (item : Option T) (j : ℕ) → item_at (with_item items slot item) j ≡ cond (j == slot) item (item_at items j)
  item_at-with_item [] zero item zero = refl
  item_at-with_item [] zero item (suc j) = rw (suc_is_not_zero j)
  item_at-with_item [] (suc slot) item zero = rw (zero_is_not_suc slot)
  item_at-with_item [] (suc slot) item (suc j) = rw (same_suc j slot) (item_at-with_item [] slot item j)
  item_at-with_item (x ∷ items) zero item zero = refl
  item_at-with_item (x ∷ items) zero item (suc j) = rw (suc_is_not_zero j)
  item_at-with_item (x ∷ items) (suc slot) item zero = rw (zero_is_not_suc slot)
  item_at-with_item (x ∷ items) (suc slot) item (suc j) = rw (same_suc j slot) (item_at-with_item items slot item j)

  -- the least free slot is free
  pub first_free-is_free : (items : List (Option T)) → item_at items (first_free items) ≡ None
  first_free-is_free [] = refl
  first_free-is_free (None ∷ items) = refl
  first_free-is_free (Some x ∷ items) =
      let next : 1 + first_free items ≡ suc (first_free items) = omega arith in rw next (first_free-is_free items)

  -- and no other slot is such a one
  pub first_free_unique : (items : List (Option T)) (slot : ℕ) → item_at items slot ≡ None → ((j : ℕ) → j < slot → item_at items j ≢ None) → first_free items ≡ slot
  first_free_unique [] zero free below = refl
  first_free_unique [] (suc slot) free below = absurd (below 0 (omega arith) refl)
  first_free_unique (None ∷ items) zero free below = refl
  first_free_unique (None ∷ items) (suc slot) free below = absurd (below 0 (omega arith) refl)
  first_free_unique (Some x ∷ items) zero free below = cc
  first_free_unique (Some x ∷ items) (suc slot) free below =
      omega (arith, first_free_unique items slot free (λ j lt. below (suc j) (omega arith)))

  pub first_free-le-length : (items : List (Option T)) → first_free items ≤ length items
  first_free-le-length [] = omega arith
  first_free-le-length (None ∷ items) = omega arith
  first_free-le-length (Some x ∷ items) = omega (arith, first_free-le-length items)
