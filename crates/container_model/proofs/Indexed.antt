-- An index added or dropped keeps what a container keeps.
use Rattle.std.proofs.Common.{◌≡◌, ℕ, zero, suc, ◌+◌, ◌<◌, ◌≤◌, Bool, true, false, cond, List, [], ◌∷◌, ◌++◌, length, map, get_or, refl, ap, sym, ◌∙◌, subst, arith, rules, append_assoc, append-nil, Option, Some, None}
use Rattle.std.specs.Prelude.{find, remove, IsTrue, IsPermutation}
use Rattle.std.specs.Option.{option_map_or}
use Rattle.std.specs.Ordering.{is_eq}
use Rattle.std.specs.Cmp.{IsTotalOrder}
use Rattle.std.specs.Cmp.Lexicographic.{options_total}
use Rattle.std.specs.declared.cmp.Ordering.{Ordering}
use Rattle.std.proofs.lemmas.Cmp.{on_total}
use Rattle.std.proofs.lemmas.List.{get_or_push, length_push}
use Rattle.std.proofs.lemmas.List.Edits.{length-remove}
use Rattle.std.proofs.lemmas.List.Sorted.{IsPermutation-refl}
use Rattle.list_model.specs.Order.{EachPair, IsInOrder}
use Rattle.list_model.specs.Place.{stable_sorted}
use Rattle.list_model.proofs.InOrder.{All-map}
use Rattle.list_model.proofs.Lists.{EachPair-push, find_none}
use Rattle.list_model.proofs.Moved.{IsPermutation-stable_sorted, IsInOrder-stable_sorted}
use Rattle.container_model.specs.declared.handle.Handle.{Handle}
use Rattle.container_model.specs.declared.handle.Entry.{Entry}
use Rattle.container_model.specs.declared.handle.Spec.{Spec}
use Rattle.container_model.specs.declared.handle.Kind.{Kind}
use Rattle.container_model.specs.declared.handle.Kind.TheVariants.{Sequenced, Random, Ordered, Ranked, Hashed}
use Rattle.container_model.specs.State.{State, KeysMatch, row_of, compare_of, has_key_kind, is_sorted_kind, is_hashed_kind, IsIndex, AreIndices, IsState}
use Rattle.container_model.specs.Indices.{new_list, clash_from, clash, with_index, without_index, EachKeyed, KeepsEach, KeepsRest}
use Rattle.container_model.proofs.Keys.{sorted_has_key}

from_zero : (n : ℕ) → 0 + n ≡ n
from_zero n = omega arith

hashed_not_sorted : (kind : Kind) → IsTrue (is_hashed_kind kind) → is_sorted_kind kind ≡ false
hashed_not_sorted Sequenced h = refl
hashed_not_sorted Random h = refl
hashed_not_sorted Ordered h = absurd (search rules)
hashed_not_sorted Ranked h = absurd (search rules)
hashed_not_sorted Hashed h = refl

-- ---- where no two records have one key

module _ {R : Type 0} (order : R → R → Ordering) where
  abbrev apart : Entry R → Entry R → Type 0
  apart a b = is_eq (order a.row b.row) ≡ false

  split_clash : (o : Option (Entry R)) (e : Entry R) (rest : Option (Handle × Handle)) → option_map_or (λ d. Some (d.handle, e.handle)) o rest ≡ None → (o ≡ None) × (rest ≡ None)
  split_clash None e rest h = (refl, h)
  split_clash (Some d) e rest h = cc

  all_apart : (before after : List (Entry R)) → clash_from order before after ≡ None → EachPair apart before → EachPair apart (before ++ after)
  all_apart before [] none each = subst (EachPair apart) (sym (append-nil before)) each
  all_apart before (e ∷ es) none each =
      let parts = split_clash (find (λ d. is_eq (order d.row e.row)) before) e (clash_from order (before ++ e ∷ []) es) none in
      subst (EachPair apart) (append_assoc before (e ∷ []) es)
      (all_apart (before ++ e ∷ []) es parts.1 (EachPair-push apart before e (find_none (λ d. is_eq (order d.row e.row)) before parts.0) each))

-- ---- one index

module _ {R : Type 0} (entries : List (Entry R)) where
  new_index : (order : R → R → Ordering) (spec : Spec) → (IsTrue (is_sorted_kind spec.kind) → IsTotalOrder order) → (IsTrue spec.unique → clash_from order [] entries ≡ None) → IsIndex order entries spec (new_list order entries spec.kind)
  new_index order spec total free = record {
    members = by_kind (is_sorted_kind spec.kind);
    in_order = λ sorted. listed (is_sorted_kind spec.kind) sorted (IsInOrder-stable_sorted (compare_of order entries) (on_total (λ g. row_of entries g) (options_total (total sorted))) handles);
    by_stamp = λ hashed. ap (λ b. cond b (stable_sorted (compare_of order entries) handles) handles) (hashed_not_sorted spec.kind hashed);
    unique = λ one. all_apart order [] entries (free one) tt;
  }
    where
      handles : List Handle
      handles = map (λ e. e.handle) entries

      by_kind : (b : Bool) → IsPermutation handles (cond b (stable_sorted (compare_of order entries) handles) handles)
      by_kind true = IsPermutation-stable_sorted (compare_of order entries) handles
      by_kind false = IsPermutation-refl handles

      listed : (b : Bool) → IsTrue b → IsInOrder (compare_of order entries) (stable_sorted (compare_of order entries) handles) → IsInOrder (compare_of order entries) (cond b (stable_sorted (compare_of order entries) handles) handles)
      listed true sorted h = h
      listed false sorted h = absurd (search rules)

  -- the same index, where the new keys compare as the old ones
  same_index : (order order' : R → R → Ordering) (spec : Spec) (list : List Handle) → (IsTrue spec.unique → IsTrue (has_key_kind spec.kind)) → (IsTrue (has_key_kind spec.kind) → order' ≡ order) → IsIndex order entries spec list → IsIndex order' entries spec list
  same_index order order' spec list keyed same kept = record {
    members = kept.members;
    in_order = λ sorted. subst (λ f. IsInOrder (compare_of f entries) list) (sym (same (sorted_has_key spec.kind sorted))) (kept.in_order sorted);
    by_stamp = kept.by_stamp;
    unique = λ one. subst (λ (f : R → R → Ordering). EachPair (λ a b. is_eq (f a.row b.row) ≡ false) entries) (sym (same (keyed one))) (kept.unique one);
  }

-- ---- all indices

abbrev AreKeyedUniques : List Spec → Type 0
AreKeyedUniques specs = (k : ℕ) (d : Spec) → k < length specs → IsTrue (get_or specs k d).unique → IsTrue (has_key_kind (get_or specs k d).kind)

module _ {R : Type 0} (entries : List (Entry R)) (order order' : ℕ → R → R → Ordering) where
  -- those whose numbers begin at b have numbers that begin at c
  rekeyed : (b c : ℕ) (specs : List Spec) (lists : List (List Handle)) → AreKeyedUniques specs → EachKeyed (λ k. order' (c + k) ≡ order (b + k)) specs → AreIndices order entries b specs lists → AreIndices order' entries c specs lists
  rekeyed b c [] [] keyed same kept = tt
  rekeyed b c [] (list ∷ lists) keyed same kept = absurd kept
  rekeyed b c (spec ∷ specs) [] keyed same kept = absurd kept
  rekeyed b c (spec ∷ specs) (list ∷ lists) keyed same kept = (
    same_index entries (order b) (order' c) spec list (keyed 0 spec (omega arith)) (λ has. ap order' (omega arith) ∙ same 0 spec (omega arith) has ∙ ap order (omega arith)) kept.0,
    rekeyed (b + 1) (c + 1) specs lists (λ k d lt. keyed (suc k) d (omega (arith, lt)))
        (λ k d lt has. ap order' (omega arith) ∙ same (suc k) d (omega (arith, lt)) has ∙ ap order (omega arith)) kept.1,
  )

  -- one goes
  removed : (b gone : ℕ) (specs : List Spec) (lists : List (List Handle)) → gone < length specs → AreKeyedUniques specs →
      EachKeyed (λ k. k < gone → order' (b + k) ≡ order (b + k)) specs →
      ((k : ℕ) (d : Spec) → gone ≤ k → k + 1 < length specs → IsTrue (has_key_kind (get_or specs (k + 1) d).kind) → order' (b + k) ≡ order (b + (k + 1))) →
      AreIndices order entries b specs lists → AreIndices order' entries b (remove specs gone) (remove lists gone)
  removed b gone [] lists lt keyed before after kept = absurd (omega (arith, lt))
  removed b gone (spec ∷ specs) [] lt keyed before after kept = absurd kept
  removed b zero (spec ∷ specs) (list ∷ lists) lt keyed before after kept =
      rekeyed (b + 1) b specs lists (λ k d l. keyed (suc k) d (omega (arith, l)))
      (λ k d l has. after k d (omega arith) (omega (arith, l)) (subst (λ n. IsTrue (has_key_kind (get_or (spec ∷ specs) n d).kind)) (next k) has) ∙ ap order (omega arith)) kept.1
    where
      next : (k : ℕ) → suc k ≡ k + 1
      next k = omega arith
  removed b (suc gone) (spec ∷ specs) (list ∷ lists) lt keyed before after kept = (
    same_index entries (order b) (order' b) spec list (keyed 0 spec (omega arith))
        (λ has. ap order' (omega arith) ∙ before 0 spec (omega arith) has (omega arith) ∙ ap order (omega arith)) kept.0,
    removed (b + 1) gone specs lists (omega (arith, lt)) (λ k d l. keyed (suc k) d (omega (arith, l)))
        (λ k d l has below. ap order' (omega arith) ∙ before (suc k) d (omega (arith, l)) has (omega (arith, below)) ∙ ap order (omega arith))
        (λ k d from l has. ap order' (omega arith) ∙ after (suc k) d (omega (arith, from)) (omega (arith, l)) (subst (λ n. IsTrue (has_key_kind (get_or (spec ∷ specs) n d).kind)) (later k) has) ∙ ap order (omega arith))
        kept.1,
  )
    where
      later : (k : ℕ) → suc (k + 1) ≡ suc k + 1
      later k = omega arith

AreIndices-push : {R : Type 0} (order : ℕ → R → R → Ordering) (entries : List (Entry R)) (b : ℕ) (specs : List Spec) (lists : List (List Handle)) (spec : Spec) (list : List Handle) →
    IsIndex (order (b + length specs)) entries spec list → AreIndices order entries b specs lists → AreIndices order entries b (specs ++ spec ∷ []) (lists ++ list ∷ [])
AreIndices-push order entries b [] [] spec list new kept = (subst (λ n. IsIndex (order n) entries spec list) (at b) new, tt)
  where
    at : (n : ℕ) → n + 0 ≡ n
    at n = omega arith
AreIndices-push order entries b [] (l ∷ lists) spec list new kept = absurd kept
AreIndices-push order entries b (s ∷ specs) [] spec list new kept = absurd kept
AreIndices-push order entries b (s ∷ specs) (l ∷ lists) spec list new kept =
    (kept.0, AreIndices-push order entries (b + 1) specs lists spec list (subst (λ n. IsIndex (order n) entries spec list) (at b (length specs)) new) kept.1)
  where
    at : (m n : ℕ) → m + suc n ≡ m + 1 + n
    at m n = omega arith

-- ---- the container

module _ {E R : Type 0} (has_key : E → ℕ → Bool) (order : E → ℕ → R → R → Ordering) (s : State E R) where
  abbrev total_of : Type 0
  total_of = (keys : E) (index : ℕ) → IsTrue (has_key keys index) → IsTotalOrder (order keys index)

  module _ (spec : Spec) (keys : E) (match : KeysMatch (has_key keys) (s.specs ++ spec ∷ [])) (same : KeepsEach (order s.keys) (order keys) s.specs) (free : clash order s spec keys ≡ None) where
    -- the lists of the indices and of one more
    pub AreIndices-indexed : total_of → KeysMatch (has_key s.keys) s.specs → AreIndices (order s.keys) s.entries 0 s.specs s.lists → AreIndices (order keys) s.entries 0 (s.specs ++ spec ∷ []) (with_index order s spec keys).lists
    AreIndices-indexed total was kept =
        AreIndices-push (order keys) s.entries 0 s.specs s.lists spec (new_list (order keys (length s.specs)) s.entries spec.kind)
        (subst (λ n. IsIndex (order keys n) s.entries spec (new_list (order keys (length s.specs)) s.entries spec.kind)) (sym (from_zero (length s.specs)))
        (new_index s.entries (order keys (length s.specs)) spec (λ sorted. total keys (length s.specs) (has_last sorted)) (λ one. by_unique spec.unique one free)))
        (rekeyed s.entries (order s.keys) (order keys) 0 0 s.specs s.lists was.unique
        (λ k d lt has. ap (order keys) (from_zero k) ∙ same k d lt has ∙ ap (order s.keys) (sym (from_zero k))) kept)
      where
        by_unique : (b : Bool) → IsTrue b → cond b (clash_from (order keys (length s.specs)) [] s.entries) None ≡ None → clash_from (order keys (length s.specs)) [] s.entries ≡ None
        by_unique true one h = h
        by_unique false one h = absurd (search rules)

        has_last : IsTrue (is_sorted_kind spec.kind) → IsTrue (has_key keys (length s.specs))
        has_last sorted =
            let last : get_or (s.specs ++ spec ∷ []) (length s.specs) spec ≡ spec = get_or_push s.specs spec spec (length s.specs) refl in
            subst IsTrue (sym (match.keyed (length s.specs) spec (omega (arith, length_push s.specs spec)))) (subst (λ (x : Spec). IsTrue (has_key_kind x.kind)) (sym last) (sorted_has_key spec.kind sorted))

  module _ (index : ℕ) (keys : E) (within : index < length s.specs) (same : KeepsRest (order s.keys) (order keys) s.specs index) where
    -- the lists of the indices but one
    pub AreIndices-unindexed : KeysMatch (has_key s.keys) s.specs → AreIndices (order s.keys) s.entries 0 s.specs s.lists → AreIndices (order keys) s.entries 0 (remove s.specs index) (remove s.lists index)
    AreIndices-unindexed was kept =
        removed s.entries (order s.keys) (order keys) 0 index s.specs s.lists within was.unique
        (λ k d lt has below. ap (order keys) (from_zero k) ∙ same.before k d lt has below ∙ ap (order s.keys) (sym (from_zero k)))
        (λ k d from lt has. ap (order keys) (from_zero k) ∙ same.after k d from lt has ∙ ap (order s.keys) (sym (from_zero (k + 1)))) kept

module _ {E R : Type 0} (has_key : E → ℕ → Bool) (order : E → ℕ → R → R → Ordering) (s : State E R) (state : IsState has_key order s) where
  pub IsState-indexed : total_of has_key order s → (spec : Spec) (keys : E) → KeysMatch (has_key keys) (s.specs ++ spec ∷ []) → KeepsEach (order s.keys) (order keys) s.specs → length s.specs < s.most → clash order s spec keys ≡ None →
      IsState has_key order (with_index order s spec keys)
  IsState-indexed total spec keys match same room free = record {
    keys = match;
    within_most = omega (arith, length_push s.specs spec, room);
    within_max = state.within_max;
    stamps = All-map _ _ (λ e p. let q : e.handle.stamp ≤ s.writes = p in omega arith) s.entries state.stamps;
    rising = state.rising;
    slots = state.slots;
    indices = AreIndices-indexed has_key order s spec keys match same free total state.keys state.indices;
  }

  pub IsState-unindexed : (index : ℕ) (keys : E) → index < length s.specs → KeysMatch (has_key keys) (remove s.specs index) → KeepsRest (order s.keys) (order keys) s.specs index →
      IsState has_key order (without_index s index keys)
  IsState-unindexed index keys within match same = record {
    keys = match;
    within_most = omega (arith, length-remove s.specs index within, state.within_most);
    within_max = state.within_max;
    stamps = All-map _ _ (λ e p. let q : e.handle.stamp ≤ s.writes = p in omega arith) s.entries state.stamps;
    rising = state.rising;
    slots = state.slots;
    indices = AreIndices-unindexed has_key order s index keys within same state.keys state.indices;
  }
