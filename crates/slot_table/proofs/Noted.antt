-- The heap keeps note of the free slots.
use Rattle.std.proofs.Common.{◌≡◌, ◌≢◌, ℕ, zero, suc, ◌+◌, ◌<◌, ◌≤◌, ◌==◌, Bool, true, false, cond, List, [], ◌∷◌, ◌++◌, length, get_or, Option, Some, None, refl, ap, sym, ◌∙◌, subst, arith}
use Rattle.std.specs.Prelude.{min, remove, IsPermutation}
use Rattle.std.specs.List.{slice_set, AllByRecursion}
use Rattle.std.specs.Option.{is_none}
use Rattle.std.specs.Ordering.{nat_cmp}
use Rattle.std.specs.declared.cmp.Ordering.{Ordering}
use Rattle.std.specs.BinaryHeap.{IsHeap, IsUpperBound}
use Rattle.std.specs.declared.cmp.Reverse.{Reverse}
use Rattle.std.proofs.lemmas.Bool.{eqb-true}
use Rattle.std.proofs.lemmas.Bool.Decides.{nat_tests}
use Rattle.std.proofs.lemmas.List.{length-append}
use Rattle.std.proofs.lemmas.List.Sums.{count_by-le-length}
use Rattle.std.proofs.lemmas.List.Sorted.{length_permutation, IsPermutation-remove}
use Rattle.std.proofs.lemmas.Map.Keys.{ge_from_not_lt}
use Rattle.list_model.proofs.Counts.{count_by-cons, count_by_none}
use Rattle.list_model.proofs.Permuted.{count_by-permutation}
use Rattle.slot_table.specs.Slots.{Slots, HasRoom, item_at, first_free, with_item}
use Rattle.slot_table.specs.Noted.{IsNoted, is_gap, times}
use Rattle.slot_table.proofs.Gaps.{gap_within, taken_within, taken_is_no_gap, first_gap, no_gap, some_gap, with_item-set, with_item-push, gap_with_item, count_with_item, length_with_item}

-- the order that puts the least slot first
abbrev pub lower_first : Reverse ℕ → Reverse ℕ → Ordering
lower_first x y = nat_cmp y.0 x.0

other : (y x j : ℕ) → x ≤ y → j < x → (j == y) ≡ false
other y x j le lt = grind (arith, nat_tests)

same : (x : ℕ) → (x == x) ≡ true
same x = grind (arith, nat_tests)

-- no slot below the first of the heap is noted
all_others : (x : Reverse ℕ) (noted : List (Reverse ℕ)) (j : ℕ) → j < x.0 → IsUpperBound lower_first x noted → AllByRecursion (λ r. (j == r.0) ≡ false) noted
all_others x [] j lt h = tt
all_others x (y ∷ noted) j lt h = (other y.0 x.0 j (ge_from_not_lt y.0 x.0 h.0) lt, all_others x noted j lt h.1)

abbrev pub one_if : Bool → ℕ
one_if b = cond b 1 0

is_one : (b : Bool) (n : ℕ) → 1 + n ≡ cond b 1 0 → b ≡ true
is_one true n h = refl
is_one false n h = absurd (omega arith)

is_none_of : (b : Bool) (n : ℕ) → n ≡ 0 → n ≡ cond b 1 0 → b ≡ false
is_none_of true n e h = absurd (omega arith)
is_none_of false n e h = refl

taken_once : (here gap : Bool) (n : ℕ) → cond here 1 0 + n ≡ cond gap 1 0 → n ≡ cond (cond here false gap) 1 0
taken_once true true n h = omega arith
taken_once true false n h = absurd (omega arith)
taken_once false gap n h = omega arith

pub freed_once : (here gap : Bool) (n m : ℕ) → m ≡ cond here 1 0 + n → n ≡ cond gap 1 0 → (here ≡ true → gap ≡ false) → m ≡ cond (cond here true gap) 1 0
freed_once true true n m e h out = let k = out refl in cc
freed_once true false n m e h out = omega arith
freed_once false gap n m e h out = omega arith

never : (b g : Bool) → g ≡ false → cond b false g ≡ false
never true g h = refl
never false g h = h

-- the slot is the least free one, and lies before the end
pub record Popped {T : Type 0} (items : List (Option T)) (slot : ℕ) : Type 0 where
  pub gap : is_gap items slot ≡ true
  pub within : slot < length items
  pub least : slot ≡ first_free items

module _ {T : Type 0} (items : List (Option T)) (noted : List (Reverse ℕ)) (capacity : ℕ) (h : IsNoted items noted capacity) where
  -- the first of the heap is the least free slot
  pub popped : (x : Reverse ℕ) (rest : List (Reverse ℕ)) → IsPermutation noted (x ∷ rest) → IsUpperBound lower_first x noted → Popped items x.0
  popped x rest moved top =
      let here : 1 + times x.0 rest ≡ cond (is_gap items x.0) 1 0 =
      ap (λ b. cond b 1 0 + times x.0 rest) (sym (same x.0)) ∙ (sym (count_by-cons (λ (r : Reverse ℕ). x.0 == r.0) x rest) ∙ (count_by-permutation (λ (r : Reverse ℕ). x.0 == r.0) noted (x ∷ rest) moved ∙ h.once x.0)) in
      let gap : is_gap items x.0 ≡ true = is_one _ _ here in
      record {
        gap = gap;
        within = gap_within items x.0 gap;
        least = sym (first_gap items x.0 gap (λ j lt. is_none_of _ (times j noted) (count_by_none (λ (r : Reverse ℕ). j == r.0) noted (all_others x noted j lt top)) (h.once j)));
      }

  pub peeked : (x : Reverse ℕ) → 0 < length noted → x ≡ get_or noted 0 x → IsUpperBound lower_first x noted → Popped items x.0
  peeked x some first top = popped x (remove noted 0) (IsPermutation-remove noted 0 x some first) top

  pub noted_taken : (x : Reverse ℕ) (rest : List (Reverse ℕ)) (item : T) (more : ℕ) → IsPermutation noted (x ∷ rest) → Popped items x.0 → IsHeap lower_first rest → capacity ≤ more → IsNoted (slice_set items x.0 (Some item)) rest more
  noted_taken x rest item more moved p heap le =
      let is = with_item-set items x.0 (Some item) p.within in
      subst (λ (l : List (Option T)). IsNoted l rest more) (sym is) (record {
        heap_order = heap;
        once = λ slot.
            taken_once (slot == x.0) (is_gap items slot) (times slot rest)
            (sym (count_by-cons (λ (r : Reverse ℕ). slot == r.0) x rest) ∙ (count_by-permutation (λ (r : Reverse ℕ). slot == r.0) noted (x ∷ rest) moved ∙ h.once slot))
            ∙ ap one_if (sym (gap_with_item items x.0 (Some item) slot (omega (arith, p.within))));
        count = omega (arith, h.count, length_permutation noted (x ∷ rest) moved, count_with_item items x.0 (Some item) (omega (arith, p.within)), ap one_if p.gap);
        room = omega (arith, h.room, length_with_item items x.0 (Some item) p.within);
      })

  -- where nothing is noted, it is the end
  pub nothing_noted : length noted ≡ 0 → first_free items ≡ length items
  nothing_noted e = no_gap items (sym h.count ∙ e)

  pub pushed_at_end : (item : Option T) → length noted ≡ 0 → items ++ item ∷ [] ≡ with_item items (first_free items) item
  pushed_at_end item e =
      with_item-push items item ∙ ap (λ slot. with_item items slot item) (sym (nothing_noted e))

  -- then there is room at the end
  pub room_at_end : (most : ℕ) (view : Slots T) → record { items = items; capacity = min most capacity } ≡ view → HasRoom view → length noted ≡ 0 → (length items < most) × (length items < capacity)
  room_at_end most view is room e =
      let end = nothing_noted e in
      let here : first_free items < min most capacity = subst HasRoom (sym is) room in
      (omega arith, omega arith)

  pub room_by_note : (most : ℕ) (view : Slots T) → record { items = items; capacity = min most capacity } ≡ view → 0 < length noted → length items ≤ most → HasRoom view
  room_by_note most view is some within =
      let gap : first_free items < length items = some_gap items (omega (arith, h.count)) in
      let room = h.room in
      subst HasRoom is (omega arith)

  pub noted_pushed : (same_noted : List (Reverse ℕ)) (item : T) (more : ℕ) → same_noted ≡ noted → length noted ≡ 0 → length items < more → IsNoted (items ++ Some item ∷ []) same_noted more
  noted_pushed same_noted item more kept e lt =
      let none = λ (slot : ℕ). let few : times slot noted ≤ length noted = count_by-le-length (λ (r : Reverse ℕ). slot == r.0) noted in is_none_of (is_gap items slot) (times slot noted) (omega arith) (h.once slot) in
      subst (λ (l : List (Option T)). IsNoted l same_noted more) (sym (with_item-push items (Some item))) (record {
        heap_order = subst (IsHeap lower_first) (sym kept) h.heap_order;
        once = λ slot.
            ap (times slot) kept ∙ (h.once slot ∙ ap one_if (none slot ∙ sym (gap_with_item items (length items) (Some item) slot (omega arith) ∙ never (slot == length items) (is_gap items slot) (none slot))));
        count = omega (arith, h.count, e, ap (length {A = Reverse ℕ}) kept, count_with_item items (length items) (Some item) (omega arith));
        room = omega (arith, ap (length {A = Option T}) (with_item-push items (Some item)), length-append items (Some item ∷ []));
      })

  -- there is room to note a taken slot
  pub room_to_note : (slot : ℕ) → item_at items slot ≢ None → length noted < capacity
  room_to_note slot taken =
      omega (arith, h.count, h.room, taken_within items slot taken, ap one_if (taken_is_no_gap items slot taken), count_with_item items slot None (omega (arith, taken_within items slot taken)), length_with_item items slot None (taken_within items slot taken), count_by-le-length is_none (with_item items slot None))

  pub noted_freed : (x : Reverse ℕ) (more : List (Reverse ℕ)) (room : ℕ) → item_at items x.0 ≢ None → IsPermutation (x ∷ noted) more → IsHeap lower_first more → capacity ≤ room → IsNoted (slice_set items x.0 None) more room
  noted_freed x more room taken moved heap le =
      let within = taken_within items x.0 taken in
      let no = taken_is_no_gap items x.0 taken in
      subst (λ (l : List (Option T)). IsNoted l more room) (sym (with_item-set items x.0 None within)) (record {
        heap_order = heap;
        once = λ slot.
            freed_once (slot == x.0) (is_gap items slot) (times slot noted) (times slot more)
            (count_by-permutation (λ (r : Reverse ℕ). slot == r.0) (x ∷ noted) more moved ∙ count_by-cons (λ (r : Reverse ℕ). slot == r.0) x noted)
            (h.once slot)
            (λ e. ap (is_gap items) (eqb-true slot x.0 e) ∙ no)
            ∙ ap one_if (sym (gap_with_item items x.0 None slot (omega (arith, within))));
        count = omega (arith, h.count, length_permutation (x ∷ noted) more moved, count_with_item items x.0 None (omega (arith, within)), ap one_if no);
        room = omega (arith, h.room, length_with_item items x.0 None within);
      })

pub nothing_in : (n : ℕ) → (0 < n → false ≡ true) → n ≡ 0
nothing_in zero h = refl
nothing_in (suc n) h = let k = h (omega arith) in cc

pub none_by_test : (n : ℕ) → true ≡ (n == 0) → n ≡ 0
none_by_test n h = eqb-true n 0 (sym h)

pub some_by_test : (n : ℕ) → false ≡ (n == 0) → 0 < n
some_by_test zero h = cc
some_by_test (suc n) h = omega arith
