-- Free slots before the end of the slots.
use Rattle.std.proofs.Common.{◌≡◌, ◌≢◌, ℕ, zero, suc, ◌+◌, ◌<◌, ◌≤◌, ◌==◌, true, false, cond, List, [], ◌∷◌, ◌++◌, length, Option, Some, None, refl, ap, arith}
use Rattle.std.specs.Prelude.{count_by}
use Rattle.std.specs.List.{slice_set}
use Rattle.std.specs.Option.{is_none}
use Rattle.std.proofs.lemmas.Bool.Decides.{nat_tests}
use Rattle.list_model.proofs.Counts.{count_by-cons}
use Rattle.slot_table.specs.Slots.{item_at, first_free, with_item}
use Rattle.slot_table.specs.Noted.{is_gap}

pub suc_is_not_zero : (j : ℕ) → (suc j == 0) ≡ false
suc_is_not_zero j = grind (arith, nat_tests)

pub zero_is_not_suc : (j : ℕ) → (0 == suc j) ≡ false
zero_is_not_suc j = grind (arith, nat_tests)

pub same_suc : (j k : ℕ) → (suc j == suc k) ≡ (j == k)
same_suc j k = grind (arith, nat_tests)

module _ {T : Type 0} where
  pub gap_within : (items : List (Option T)) (slot : ℕ) → is_gap items slot ≡ true → slot < length items
  gap_within [] slot h = cc
  gap_within (x ∷ items) zero h = omega arith
  gap_within (x ∷ items) (suc slot) h = omega (arith, gap_within items slot h)

  pub taken_within : (items : List (Option T)) (slot : ℕ) → item_at items slot ≢ None → slot < length items
  taken_within [] slot h = absurd (h refl)
  taken_within (x ∷ items) zero h = omega arith
  taken_within (x ∷ items) (suc slot) h = omega (arith, taken_within items slot h)

  pub taken_is_no_gap : (items : List (Option T)) (slot : ℕ) → item_at items slot ≢ None → is_gap items slot ≡ false
  taken_is_no_gap [] slot h = refl
  taken_is_no_gap (None ∷ items) zero h = absurd (h refl)
  taken_is_no_gap (Some x ∷ items) zero h = refl
  taken_is_no_gap (x ∷ items) (suc slot) h = taken_is_no_gap items slot h

  -- the first of them is the least free slot
  pub first_gap : (items : List (Option T)) (slot : ℕ) → is_gap items slot ≡ true → ((j : ℕ) → j < slot → is_gap items j ≡ false) → first_free items ≡ slot
  first_gap [] slot h below = cc
  first_gap (None ∷ items) zero h below = refl
  first_gap (None ∷ items) (suc slot) h below = let k = below 0 (omega arith) in cc
  first_gap (Some x ∷ items) zero h below = cc
  first_gap (Some x ∷ items) (suc slot) h below =
      omega (arith, first_gap items slot h (λ j lt. below (suc j) (omega arith)))

  -- where there is none, it is the end
  pub no_gap : (items : List (Option T)) → count_by is_none items ≡ 0 → first_free items ≡ length items
  no_gap [] h = refl
  no_gap (None ∷ items) h = absurd (omega (arith, count_by-cons is_none None items))
  no_gap (Some x ∷ items) h =
      let rest : count_by is_none items ≡ 0 = omega (arith, count_by-cons is_none (Some x) items) in
      omega (arith, no_gap items rest)

  pub some_gap : (items : List (Option T)) → 0 < count_by is_none items → first_free items < length items
  some_gap [] h = absurd (omega arith)
  some_gap (None ∷ items) h = omega arith
  some_gap (Some x ∷ items) h =
      let rest : 0 < count_by is_none items = omega (arith, count_by-cons is_none (Some x) items) in
      omega (arith, some_gap items rest)

  pub with_item-set : (items : List (Option T)) (slot : ℕ) (item : Option T) → slot < length items → slice_set items slot item ≡ with_item items slot item
  with_item-set [] slot item h = absurd (omega arith)
  with_item-set (x ∷ items) zero item h = refl
  with_item-set (x ∷ items) (suc slot) item h = ap (λ l. x ∷ l) (with_item-set items slot item (omega arith))

  pub with_item-push : (items : List (Option T)) (item : Option T) → items ++ item ∷ [] ≡ with_item items (length items) item
  with_item-push [] item = refl
  with_item-push (x ∷ items) item = ap (λ l. x ∷ l) (with_item-push items item)

  -- the gaps, and how many they are, once a slot has another item
  pub gap_with_item : (items : List (Option T)) (slot : ℕ) (item : Option T) (j : ℕ) → slot ≤ length items → is_gap (with_item items slot item) j ≡ cond (j == slot) (is_none item) (is_gap items j)
  gap_with_item [] zero item zero h = refl
  gap_with_item [] zero item (suc j) h = rw (suc_is_not_zero j)
  gap_with_item [] (suc slot) item j h = absurd (omega arith)
  gap_with_item (x ∷ items) zero item zero h = refl
  gap_with_item (x ∷ items) zero item (suc j) h = rw (suc_is_not_zero j)
  gap_with_item (x ∷ items) (suc slot) item zero h = rw (zero_is_not_suc slot)
  gap_with_item (x ∷ items) (suc slot) item (suc j) h = rw (same_suc j slot) (gap_with_item items slot item j (omega arith))

  pub count_with_item : (items : List (Option T)) (slot : ℕ) (item : Option T) → slot ≤ length items → count_by is_none (with_item items slot item) + cond (is_gap items slot) 1 0 ≡ count_by is_none items + cond (is_none item) 1 0
  count_with_item [] zero item h = omega (arith, count_by-cons is_none item [])
  count_with_item [] (suc slot) item h = absurd (omega arith)
  count_with_item (x ∷ items) zero item h = omega (arith, count_by-cons is_none item items, count_by-cons is_none x items)
  count_with_item (x ∷ items) (suc slot) item h =
      omega (arith, count_by-cons is_none x items, count_by-cons is_none x (with_item items slot item), count_with_item items slot item (omega arith))

  pub length_with_item : (items : List (Option T)) (slot : ℕ) (item : Option T) → slot < length items → length (with_item items slot item) ≡ length items
  length_with_item [] slot item h = absurd (omega arith)
  length_with_item (x ∷ items) zero item h = refl
  length_with_item (x ∷ items) (suc slot) item h = ap suc (length_with_item items slot item (omega arith))
