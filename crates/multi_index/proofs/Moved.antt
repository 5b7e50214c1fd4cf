-- What a change of the order of a sequence leaves, of one that is not there too.
use Rattle.std.proofs.Common.{◌≡◌, ◌⊎◌, inl, inr, ℕ, suc, ◌+◌, ◌<◌, ◌≤◌, Bool, true, List, [], ◌∷◌, length, set, refl, sym, ap, ◌∙◌, subst, arith}
use Rattle.std.specs.Prelude.{IsTrue}
use Rattle.std.specs.declared.cmp.Ordering.{Ordering}
use Rattle.std.proofs.lemmas.Bool.{cases_lt}
use Rattle.std.proofs.lemmas.List.{set_past}
use Rattle.std.proofs.lemmas.List.Sorted.{IsPermutation-refl}
use Rattle.list_model.specs.Walk.{relocated}
use Rattle.container_model.specs.declared.handle.Entry.{Entry}
use Rattle.container_model.specs.declared.handle.Handle.{Handle}
use Rattle.container_model.specs.declared.handle.Spec.{Spec}
use Rattle.container_model.specs.State.{State, IsState, AreIndices, is_handle, is_sequence_kind, list_at}
use Rattle.container_model.specs.Find.{is_live, kind_at}
use Rattle.container_model.specs.Sequence.{has_each_once, with_list, with_relocated}
use Rattle.container_model.proofs.Moved as there

-- there are as many lists as indices
as_many_lists : {R : Type 0} (order : ℕ → R → R → Ordering) (entries : List (Entry R)) (from : ℕ) (specs : List Spec) (lists : List (List Handle)) → AreIndices order entries from specs lists → length lists ≡ length specs
as_many_lists order entries from [] [] are = refl
as_many_lists order entries from [] (list ∷ lists) are = absurd are
as_many_lists order entries from (spec ∷ specs) [] are = absurd are
as_many_lists order entries from (spec ∷ specs) (list ∷ lists) are = ap suc (as_many_lists order entries (from + 1) specs lists are.1)

module _ {E R : Type 0} (has_key : E → ℕ → Bool) (order : E → ℕ → R → R → Ordering) (s : State E R) (index : ℕ) (sequence : IsTrue (is_sequence_kind (kind_at s index))) (state : IsState has_key order s) where
  -- a list for an index that is not there changes none
  past : (list : List Handle) → length s.specs ≤ index → IsState has_key order (with_list s index list)
  past list le =
      let same : (other : List Handle) → set s.lists index other ≡ s.lists = λ other. set_past s.lists index other (omega (arith, le, as_many_lists (order s.keys) s.entries 0 s.specs s.lists state.indices)) in
      subst (λ lists. IsState has_key order (record s { writes = s.writes + 1; lists = lists })) (same (list_at s.lists index) ∙ sym (same list)) (there.IsState-listed has_key order s index sequence state (list_at s.lists index) (IsPermutation-refl (list_at s.lists index)))

  pub IsState-rearranged : (handles : List Handle) → has_each_once s.entries handles ≡ true → IsState has_key order (with_list s index handles)
  IsState-rearranged handles each = by_place (cases_lt index (length s.specs))
    where
      by_place : (index < length s.specs) ⊎ (length s.specs ≤ index) → IsState has_key order (with_list s index handles)
      by_place (inl within) = there.IsState-rearranged has_key order s index sequence state handles within each
      by_place (inr le) = past handles le

  pub IsState-relocated : (h : Handle) (place : ℕ) → is_live s h ≡ true → IsState has_key order (with_relocated s index place h)
  IsState-relocated h place live = by_place (cases_lt index (length s.specs))
    where
      by_place : (index < length s.specs) ⊎ (length s.specs ≤ index) → IsState has_key order (with_relocated s index place h)
      by_place (inl within) = there.IsState-relocated has_key order s index sequence state h place within live
      by_place (inr le) = past (relocated (is_handle h) h place (list_at s.lists index)) le
