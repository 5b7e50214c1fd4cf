-- A heap that gets the free slots one after the other, and a list of slots that becomes long enough for one.
use Rattle.std.proofs.Common.{◌≡◌, ℕ, zero, suc, ◌+◌, ◌<◌, ◌≤◌, ◌==◌, Bool, true, false, cond, List, [], ◌∷◌, ◌++◌, length, take, get_or, Option, Some, None, refl, ap, sym, ◌∙◌, subst, arith, append-nil}
use Rattle.std.specs.Prelude.{count_by, is_some, IsPermutation}
use Rattle.std.specs.Option.{is_none}
use Rattle.std.specs.BinaryHeap.{IsHeap}
use Rattle.std.specs.declared.cmp.Reverse.{Reverse}
use Rattle.std.proofs.lemmas.Bool.{eqb-true}
use Rattle.std.proofs.lemmas.List.{take_more, drop_all, take-append-drop, length-take-le}
use Rattle.std.proofs.lemmas.List.Sorted.{length_permutation}
use Rattle.list_model.proofs.Counts.{count_by-cons}
use Rattle.list_model.proofs.Permuted.{count_by-permutation}
use Rattle.slot_table.specs.Slots.{with_item}
use Rattle.slot_table.specs.Noted.{IsNoted, is_gap, times}
use Rattle.slot_table.proofs.Gaps.{with_item-push, gap_with_item, count_with_item}
use Rattle.slot_table.proofs.Noted.{lower_first, one_if, freed_once}

-- so far: these slots have been looked at
pub record AreNoted {T : Type 0} (front : List (Option T)) (noted : List (Reverse ℕ)) : Type 0 where
  pub heap_order : IsHeap lower_first noted
  pub once : (j : ℕ) → times j noted ≡ cond (is_gap front j) 1 0
  pub count : length noted ≡ count_by is_none front

not_here : (here gap : Bool) → (here ≡ true → gap ≡ false) → gap ≡ cond here false gap
not_here true gap h = h refl
not_here false gap h = refl

module _ {T : Type 0} where
  end_is_no_gap : (items : List (Option T)) → is_gap items (length items) ≡ false
  end_is_no_gap [] = refl
  end_is_no_gap (x ∷ items) = end_is_no_gap items

  module _ (front : List (Option T)) where
    at_end : (j : ℕ) → (j == length front) ≡ true → is_gap front j ≡ false
    at_end j e = ap (is_gap front) (eqb-true j (length front) e) ∙ end_is_no_gap front

    count_pushed : (item : Option T) → count_by is_none (front ++ item ∷ []) ≡ count_by is_none front + one_if (is_none item)
    count_pushed item =
        let counted = count_with_item front (length front) item (omega arith) in
        ap (count_by is_none) (with_item-push front item) ∙ omega (arith, counted, ap one_if (end_is_no_gap front))

    gap_pushed : (item : Option T) (j : ℕ) → is_gap (front ++ item ∷ []) j ≡ cond (j == length front) (is_none item) (is_gap front j)
    gap_pushed item j = ap (λ l. is_gap l j) (with_item-push front item) ∙ gap_with_item front (length front) item j (omega arith)

    -- a taken slot comes
    pub noted_past : (noted : List (Reverse ℕ)) (item : T) → AreNoted front noted → AreNoted (front ++ Some item ∷ []) noted
    noted_past noted item h = record {
      heap_order = h.heap_order;
      once = λ j. h.once j ∙ ap one_if (not_here (j == length front) (is_gap front j) (at_end j) ∙ sym (gap_pushed (Some item) j));
      count = omega (arith, h.count, count_pushed (Some item));
    }

    -- a free slot comes, and is noted
    pub noted_more : (noted more : List (Reverse ℕ)) (x : Reverse ℕ) → x.0 ≡ length front → IsPermutation (x ∷ noted) more → IsHeap lower_first more → AreNoted front noted → AreNoted (front ++ None ∷ []) more
    noted_more noted more x last moved heap h = record {
      heap_order = heap;
      once = λ j.
          freed_once (j == length front) (is_gap front j) (times j noted) (times j more)
          (count_by-permutation (λ (r : Reverse ℕ). j == r.0) (x ∷ noted) more moved ∙ count_by-cons (λ (r : Reverse ℕ). j == r.0) x noted ∙ ap (λ n. one_if (j == n) + times j noted) last)
          (h.once j) (at_end j)
          ∙ ap one_if (sym (gap_pushed None j));
      count = omega (arith, h.count, length_permutation (x ∷ noted) more moved, count_pushed None);
    }

  free_is : (item : Option T) → is_some item ≡ false → item ≡ None
  free_is None h = refl
  free_is (Some x) h = cc

  taken_is : (item : Option T) (P : Option T → Type 0) → is_some item ≡ true → ((x : T) → P (Some x)) → P item
  taken_is None P h all = cc
  taken_is (Some x) P h all = all x

  -- the next slot is looked at
  module _ (items : List (Option T)) (slot : ℕ) (d : Option T) (lt : slot < length items) (noted : List (Reverse ℕ)) (h : AreNoted (take slot items) noted) where
    pub noted_next_taken : d ≡ get_or items slot d → is_some d ≡ true → AreNoted (take (slot + 1) items) noted
    noted_next_taken at is =
        subst (λ l. AreNoted l noted) (sym (take_more items slot d lt ∙ ap (λ item. take slot items ++ item ∷ []) (sym at)))
        (taken_is d (λ item. AreNoted (take slot items ++ item ∷ []) noted) is (λ x. noted_past (take slot items) noted x h))

    pub noted_next_free : (more : List (Reverse ℕ)) (x : Reverse ℕ) → x.0 ≡ slot → d ≡ get_or items slot d → is_some d ≡ false → IsPermutation (x ∷ noted) more → IsHeap lower_first more → AreNoted (take (slot + 1) items) more
    noted_next_free more x number at is moved heap =
        subst (λ l. AreNoted l more) (sym (take_more items slot d lt ∙ ap (λ item. take slot items ++ item ∷ []) (sym at ∙ free_is d is)))
        (noted_more (take slot items) noted more x (number ∙ sym (length-take-le slot items (omega (arith, lt)))) moved heap h)

  -- all slots were looked at
  pub all_noted : (items : List (Option T)) (slot : ℕ) (noted : List (Reverse ℕ)) (capacity : ℕ) → length items ≤ slot → length items ≤ capacity → AreNoted (take slot items) noted → IsNoted items noted capacity
  all_noted items slot noted capacity le room h =
      let whole : take slot items ≡ items = sym (append-nil (take slot items)) ∙ ap (λ l. take slot items ++ l) (sym (drop_all slot items le)) ∙ take-append-drop slot items in
      let all = subst (λ l. AreNoted l noted) whole h in
      record { heap_order = all.heap_order; once = all.once; count = all.count; room = room }

  -- a free slot at the end changes nothing for one that lies further on
  pub with_item-padded : (items : List (Option T)) (slot : ℕ) (item : Option T) → length items < slot → with_item (items ++ None ∷ []) slot item ≡ with_item items slot item
  with_item-padded [] zero item lt = absurd (omega arith)
  with_item-padded [] (suc slot) item lt = refl
  with_item-padded (x ∷ items) zero item lt = absurd (omega arith)
  with_item-padded (x ∷ items) (suc slot) item lt = ap (λ l. x ∷ l) (with_item-padded items slot item (omega arith))
