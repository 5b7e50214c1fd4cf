-- A whole key has at most one record in a unique index.
use Rattle.std.proofs.Common.{◌≡◌, ℕ, zero, suc, ◌+◌, ◌≤◌, Bool, true, false, cond, ◌==◌, List, [], ◌∷◌, map, refl, ap, sym, ◌∙◌, subst, arith}
use Rattle.std.specs.Prelude.{IsTrue, IsPermutation, count_by, slice_get}
use Rattle.std.specs.Option.{option_map_or}
use Rattle.std.specs.Ordering.{is_eq}
use Rattle.std.specs.declared.cmp.Ordering.{Ordering}
use Rattle.std.specs.declared.cmp.Ordering.TheVariants.{Less, Equal, Greater}
use Rattle.list_model.specs.Order.{EachPair}
use Rattle.list_model.specs.Place.{count_equal}
use Rattle.list_model.proofs.Counts.{count_by-cons, count_by_none, count_by_same}
use Rattle.list_model.proofs.InOrder.{All-map}
use Rattle.list_model.proofs.Permuted.{count_by-permutation}
use Rattle.container_model.specs.declared.handle.Handle.{Handle}
use Rattle.container_model.specs.declared.handle.Entry.{Entry}
use Rattle.container_model.specs.declared.handle.Spec.{Spec}
use Rattle.container_model.specs.State.{State, side_of, list_at, AreIndices, IsState}
use Rattle.container_model.specs.Find.{is_unique_at, probe_side}
use Rattle.container_model.proofs.Found.{row_of_members}

-- one or none
abbrev once : Bool → ℕ
once b = cond b 1 0

count_by-map : {X Y : Type 0} (f : X → Y) (p : Y → Bool) (xs : List X) → count_by p (map f xs) ≡ count_by (λ x. p (f x)) xs
count_by-map f p [] = refl
count_by-map f p (x ∷ xs) =
    count_by-cons p (f x) (map f xs) ∙ (ap (λ n. cond (p (f x)) 1 0 + n) (count_by-map f p xs) ∙ sym (count_by-cons (λ y. p (f y)) x xs))

-- what an index at which no two records have one key keeps
at_unique : {R : Type 0} (order : ℕ → R → R → Ordering) (entries : List (Entry R)) (index k : ℕ) (specs : List Spec) (lists : List (List Handle)) → AreIndices order entries index specs lists →
    option_map_or (λ spec. spec.unique) (slice_get specs k) false ≡ true → IsPermutation (map (λ e. e.handle) entries) (list_at lists k) × EachPair (λ a b. is_eq (order (index + k) a.row b.row) ≡ false) entries
at_unique order entries index zero [] lists kept one = cc
at_unique order entries index (suc k) [] lists kept one = cc
at_unique order entries index k (spec ∷ specs) [] kept one = absurd kept
at_unique order entries index zero (spec ∷ specs) (list ∷ lists) kept one =
    let same : index ≡ index + 0 = omega arith in
    (kept.0.members, subst (λ i. EachPair (λ a b. is_eq (order i a.row b.row) ≡ false) entries) same (kept.0.unique one))
at_unique order entries index (suc k) (spec ∷ specs) (list ∷ lists) kept one =
    let same : (index + 1) + k ≡ index + suc k = omega arith in
    let rest = at_unique order entries (index + 1) k specs lists kept.1 one in
    (rest.0, subst (λ i. EachPair (λ a b. is_eq (order i a.row b.row) ≡ false) entries) same rest.1)

module _ {R : Type 0} (side : R → Ordering) (compare : R → R → Ordering) (one_key : (a b : R) → side a ≡ Equal → side b ≡ Equal → compare a b ≡ Equal) where
  no_other : (a b : R) → side a ≡ Equal → is_eq (compare a b) ≡ false → is_eq (side b) ≡ false
  no_other a b has apart = by_side (side b) refl
    where
      by_side : (o : Ordering) → side b ≡ o → is_eq o ≡ false
      by_side Less is = refl
      by_side Equal is = sym (ap is_eq (one_key a b has is)) ∙ apart
      by_side Greater is = refl

  at_most_one : (entries : List (Entry R)) → EachPair (λ a b. is_eq (compare a.row b.row) ≡ false) entries → count_by (λ e. is_eq (side e.row)) entries ≤ 1
  at_most_one [] apart = omega arith
  at_most_one (e ∷ es) apart = by_side (at_most_one es apart.1) (side e.row) refl
    where
      all : count_by (λ x. is_eq (side x.row)) (e ∷ es) ≡ once (is_eq (side e.row)) + count_by (λ x. is_eq (side x.row)) es
      all = count_by-cons (λ x. is_eq (side x.row)) e es

      by_side : count_by (λ x. is_eq (side x.row)) es ≤ 1 → (o : Ordering) → side e.row ≡ o → count_by (λ x. is_eq (side x.row)) (e ∷ es) ≤ 1
      by_side rest Less is = let first : once (is_eq (side e.row)) ≡ 0 = ap (λ o. once (is_eq o)) is in omega (arith, all, first, rest)
      by_side rest Greater is = let first : once (is_eq (side e.row)) ≡ 0 = ap (λ o. once (is_eq o)) is in omega (arith, all, first, rest)
      by_side rest Equal is =
          let first : once (is_eq (side e.row)) ≡ 1 = ap (λ o. once (is_eq o)) is in
          let none = count_by_none (λ x. is_eq (side x.row)) es (All-map _ _ (λ x differs. no_other e.row x.row is differs) es apart.0) in
          omega (arith, all, first, none)

  -- the handles of an index stand for its records
  counted_rows : (entries : List (Entry R)) (list : List Handle) → EachPair (λ a b. (b.handle.slot == a.handle.slot) ≡ false) entries → IsPermutation (map (λ e. e.handle) entries) list →
      count_equal (side_of side entries) list ≡ count_by (λ e. is_eq (side e.row)) entries
  counted_rows entries list slots members =
      count_by-permutation (λ h. is_eq (side_of side entries h)) (map (λ e. e.handle) entries) list members
      ∙ (count_by-map (λ e. e.handle) (λ h. is_eq (side_of side entries h)) entries
      ∙ count_by_same (λ e. is_eq (side_of side entries e.handle)) (λ e. is_eq (side e.row)) entries
      (All-map _ _ (λ e found. ap (λ o. is_eq (option_map_or side o Less)) found) entries (row_of_members entries slots)))

pub one_of_a_key : {E R P : Type 0} (has_key : E → ℕ → Bool) (order : E → ℕ → R → R → Ordering) (probe_order : E → ℕ → R → P → Ordering) (s : State E R) → IsState has_key order s → (index : ℕ) (probe : P) → IsTrue (is_unique_at s index) →
    ((a b : R) → probe_order s.keys index a probe ≡ Equal → probe_order s.keys index b probe ≡ Equal → order s.keys index a b ≡ Equal) → count_equal (probe_side probe_order s index probe) (list_at s.lists index) ≤ 1
one_of_a_key {R = R} has_key order probe_order s state index probe unique one_key =
    let here = at_unique (order s.keys) s.entries 0 index s.specs s.lists state.indices unique in
    let side : R → Ordering = λ a. probe_order s.keys index a probe in
    let same : 0 + index ≡ index = omega arith in
    let apart : EachPair (λ (a : Entry R) (b : Entry R). is_eq (order s.keys index a.row b.row) ≡ false) s.entries = subst (λ i. EachPair (λ a b. is_eq (order s.keys i a.row b.row) ≡ false) s.entries) same here.1 in
    let few = at_most_one side (order s.keys index) one_key s.entries apart in
    let rows = counted_rows side (order s.keys index) one_key s.entries (list_at s.lists index) state.slots here.0 in
    omega (arith, few, rows)
