-- A change of a record that is undone where it is refused leaves a container.
use Rattle.std.proofs.Common.{◌≡◌, ℕ, ◌+◌, Bool, Option, Some, None, refl, sym, ap, ◌∙◌, subst, arith}
use Rattle.std.specs.Prelude.{IsTrue, is_some}
use Rattle.std.specs.Cmp.{IsTotalOrder}
use Rattle.std.specs.Option.{option_map_or}
use Rattle.std.specs.declared.cmp.Ordering.{Ordering}
use Rattle.container_model.specs.declared.handle.Handle.{Handle}
use Rattle.container_model.specs.declared.refusal.Why.{Why}
use Rattle.container_model.specs.State.{State, IsState, row_of}
use Rattle.container_model.specs.Find.{is_live}
use Rattle.container_model.specs.Change.{replace_refusal, with_replaced}
use Rattle.container_model.specs.Undone.{KeepsKeys, modify_or_undo_refusal, with_modified_or_undone, with_undone}
use Rattle.container_model.proofs.Replaced.{IsState-replaced}
use Rattle.container_model.proofs.Undone.{IsState-undone}
use Rattle.linked_set.specs.Records.{Records, state_of}
use Rattle.multi_index.specs.Container.{IsContainer}
use Rattle.multi_index.proofs.Allowed.{change_allowed, not_banned, undo_allowed}
use Rattle.multi_index.proofs.Steps.{none_added, IsContainer-next}

module _ {E R : Type 0} (has_key : E → ℕ → Bool) (order : E → ℕ → R → R → Ordering) (total : (keys : E) (i : ℕ) → IsTrue (has_key keys i) → IsTotalOrder (order keys i)) (s : State E R) (state : IsState has_key order s) (h : Handle) (change undo : R → R) (keeps : KeepsKeys order s h undo) where
  pub IsState-modified_or_undone : IsState has_key order (with_modified_or_undone order s h change undo)
  IsState-modified_or_undone = by_row (row_of s.entries h) refl
    where
      by_why : (row : R) → row_of s.entries h ≡ Some row → (o : Option Why) → replace_refusal order s h (change row) ≡ o → IsState has_key order (option_map_or (λ why. with_undone s h (undo row)) o (with_replaced order s h (change row)))
      by_why row live (Some why) e = IsState-undone has_key order total s state h (undo row) row live (λ index lt key. keeps index row lt key live)
      by_why row live None e = IsState-replaced has_key order total s h (change row) state (ap is_some live) (not_banned _ _ (change_allowed (is_live s h) _ e).1).0

      by_row : (o : Option R) → row_of s.entries h ≡ o → IsState has_key order (option_map_or (λ row. option_map_or (λ why. with_undone s h (undo row)) (replace_refusal order s h (change row)) (with_replaced order s h (change row))) o s)
      by_row None e = state
      by_row (Some row) e = by_why row e (replace_refusal order s h (change row)) refl

-- so it does with its number of the last write, whether it is kept or undone
module _ {E R : Type 0} (order : E → ℕ → R → R → Ordering) (old new : Records E R) (max writes : ℕ) (h : Handle) (change undo : R → R) (why : Option Why)
    (left : state_of new max (option_map_or (λ w. writes) why (writes + 1)) ≡ with_modified_or_undone order (state_of old max writes) h change undo) where
  -- what it leaves, as its answer is this one
  pub left_by : (o : Option Why) → why ≡ o → state_of new max (option_map_or (λ w. writes) o (writes + 1)) ≡ with_modified_or_undone order (state_of old max writes) h change undo
  left_by o e = subst (λ p. state_of new max (option_map_or (λ w. writes) p (writes + 1)) ≡ with_modified_or_undone order (state_of old max writes) h change undo) e left

  module _ {has_key : E → ℕ → Bool} (total : (keys : E) (i : ℕ) → IsTrue (has_key keys i) → IsTotalOrder (order keys i)) (is : why ≡ modify_or_undo_refusal order (state_of old max writes) h change) (was : IsContainer has_key order old max writes) (added : new.added ≡ old.added)
      (keeps : KeepsKeys order (state_of old max writes) h undo) where
    state : IsState has_key order (with_modified_or_undone order (state_of old max writes) h change undo)
    state = IsState-modified_or_undone has_key order total (state_of old max writes) was.state h change undo keeps

    pub IsContainer-undone : (w : Why) → why ≡ Some w → IsContainer has_key order new max writes
    IsContainer-undone w e =
        let before = was.added in
        record { state = subst (IsState has_key order) (sym (left_by (Some w) e)) state; narrow = was.narrow; numbered = was.numbered; added = omega (arith, before, added) }

    pub IsContainer-changed : why ≡ None → IsContainer has_key order new max (writes + 1)
    IsContainer-changed none = IsContainer-next old new max writes was (none_added added) (undo_allowed order (state_of old max writes) h change (sym is ∙ none)) (left_by None none) state
