-- Why a change of a record is refused and undone, and what that leaves.
use Rattle.std.proofs.Common.{◌≡◌, ℕ, ◌+◌, ◌<◌, ◌==◌, Bool, false, cond, length, Option, Some, None, refl, sym, ap, ◌∙◌, subst}
use Rattle.std.specs.Prelude.{IsTrue, is_some}
use Rattle.std.specs.Option.{option_map_or}
use Rattle.std.specs.Cmp.{IsTotalOrder}
use Rattle.list_model.specs.Order.{EachPair}
use Rattle.std.specs.declared.cmp.Ordering.{Ordering}
use Rattle.std.specs.declared.cmp.Ordering.TheVariants.{Equal}
use Rattle.container_model.specs.declared.handle.Handle.{Handle}
use Rattle.container_model.specs.declared.handle.Entry.{Entry}
use Rattle.container_model.specs.declared.refusal.Why.{Why}
use Rattle.container_model.specs.declared.refusal.Why.TheVariants.{Banned, Stale}
use Rattle.container_model.specs.State.{State, KeysMatch, row_of, has_key_kind}
use Rattle.container_model.specs.Find.{kind_at}
use Rattle.container_model.specs.Insert.{ban}
use Rattle.container_model.specs.Change.{replace_refusal, spent, with_replaced}
use Rattle.index_set.specs.declared.parts.Parts.{Parts}
use Rattle.index_set.specs.Set.{contents}
use Rattle.index_set.specs.declared.by_row.ByRow.{ByRow}
use Rattle.linked_set.specs.Linked.{entries_in}
use Rattle.linked_set.specs.Seen.{seen}
use Rattle.container_model.specs.Undone.{modify_or_undo_refusal, with_modified_or_undone, with_undone}
use Rattle.linked_set.proofs.Written.{AreListedIn, not_banned, listed_replaced}
use Rattle.container_model.proofs.Undone.{AreIndices-undone}

-- a live handle's row is refused where another record has its key, or where no write may take place
pub refused_live : {E R : Type 0} (order : E → ℕ → R → R → Ordering) (s : State E R) (h : Handle) (row old : R) → row_of s.entries h ≡ Some old → replace_refusal order s h row ≡ option_map_or (λ (at : ℕ × Handle). Some (Banned at.0 at.1)) (ban order s (Some h) row) (spent s)
refused_live order s h row old live = ap (λ o. cond (is_some o) (option_map_or (λ (at : ℕ × Handle). Some (Banned at.0 at.1)) (ban order s (Some h) row) (spent s)) (Some Stale)) live

module _ {E R : Type 0} (order : E → ℕ → R → R → Ordering) (s : State E R) (h : Handle) (change undo : R → R) where
  -- a change of a handle that names nothing is refused, and leaves all as it was
  module _ (none : row_of s.entries h ≡ None) where
    pub refused_none : modify_or_undo_refusal order s h change ≡ Some Stale
    refused_none = ap (λ o. option_map_or (λ row. replace_refusal order s h (change row)) o (Some Stale)) none

    pub left_none : with_modified_or_undone order s h change undo ≡ s
    left_none = ap (λ o. option_map_or (λ row. option_map_or (λ why. with_undone s h (undo row)) (replace_refusal order s h (change row)) (with_replaced order s h (change row))) o s) none

  -- one of a live handle is refused by a ban, and then by the last write
  module _ (row : R) (live : row_of s.entries h ≡ Some row) (result : Option Why) (why : result ≡ option_map_or (λ (at : ℕ × Handle). Some (Banned at.0 at.1)) (ban order s (Some h) (change row)) (spent s)) where
    refused_here : result ≡ replace_refusal order s h (change row)
    refused_here = why ∙ sym (refused_live order s h (change row) row live)

    pub refused_some : result ≡ modify_or_undo_refusal order s h change
    refused_some = refused_here ∙ sym (ap (λ o. option_map_or (λ row. replace_refusal order s h (change row)) o (Some Stale)) live)

    pub left_some : option_map_or (λ why. with_undone s h (undo row)) result (with_replaced order s h (change row)) ≡ with_modified_or_undone order s h change undo
    left_some =
        ap (λ o. option_map_or (λ why. with_undone s h (undo row)) o (with_replaced order s h (change row))) refused_here
        ∙ sym (ap (λ o. option_map_or (λ row. option_map_or (λ why. with_undone s h (undo row)) (replace_refusal order s h (change row)) (with_replaced order s h (change row))) o s) live)

-- ---- what a change of a node's record left, and why it was undone, if it was

module _ {E R : Type 0} (order : E → ℕ → R → R → Ordering) (old new : Parts (Entry R) (ByRow E)) (max writes : ℕ) (h own : Handle) (is : own ≡ h) (change undo : R → R) (row : R) (live : row_of (entries_in (contents old)) h ≡ Some row) (result : Option Why)
    (why : result ≡ option_map_or (λ (at : ℕ × Handle). Some (Banned at.0 at.1)) (ban order (seen old max writes) (Some own) (change row)) (spent (seen old max writes)))
    (left : seen new max (option_map_or (λ why. writes) result (writes + 1)) ≡ option_map_or (λ why. with_undone (seen old max writes) own (undo row)) result (with_replaced order (seen old max writes) own (change row))) where
  abbrev before : State E R
  before = seen old max writes

  why_here : result ≡ option_map_or (λ (at : ℕ × Handle). Some (Banned at.0 at.1)) (ban order before (Some h) (change row)) (spent before)
  why_here = why ∙ ap (λ g. option_map_or (λ (at : ℕ × Handle). Some (Banned at.0 at.1)) (ban order before (Some g) (change row)) (spent before)) is

  left_here : seen new max (option_map_or (λ why. writes) result (writes + 1)) ≡ option_map_or (λ why. with_undone before h (undo row)) result (with_replaced order before h (change row))
  left_here = left ∙ ap (λ g. option_map_or (λ why. with_undone before g (undo row)) result (with_replaced order before g (change row))) is

  pub refused_by_model : result ≡ modify_or_undo_refusal order before h change
  refused_by_model = refused_some order before h change undo row live result why_here

  pub left_by_model : seen new max (option_map_or (λ why. writes) result (writes + 1)) ≡ with_modified_or_undone order before h change undo
  left_by_model = left_here ∙ left_some order before h change undo row live result why_here

-- ---- the lists of the indices

module _ {E R : Type 0} (has_key : E → ℕ → Bool) (order : E → ℕ → R → R → Ordering) (total : (keys : E) (i : ℕ) → IsTrue (has_key keys i) → IsTotalOrder (order keys i)) (s : State E R) (h : Handle) (change undo : R → R)
    (match : KeysMatch (has_key s.keys) s.specs) (apart : EachPair (λ a b. (b.handle.slot == a.handle.slot) ≡ false) s.entries) (kept : AreListedIn order s) (row : R) (live : row_of s.entries h ≡ Some row)
    (equal : (i : ℕ) → i < length s.specs → IsTrue (has_key_kind (kind_at s i)) → order s.keys i (undo row) row ≡ Equal) where
  -- they stay those of the indices, whether the change stays or is undone
  pub listed_or_undone : AreListedIn order (with_modified_or_undone order s h change undo)
  listed_or_undone =
      subst (λ o. AreListedIn order (option_map_or (λ row. option_map_or (λ why. with_undone s h (undo row)) (replace_refusal order s h (change row)) (with_replaced order s h (change row))) o s)) (sym live)
      (by_refusal (replace_refusal order s h (change row)) refl)
    where
      by_refusal : (o : Option Why) → replace_refusal order s h (change row) ≡ o → AreListedIn order (option_map_or (λ why. with_undone s h (undo row)) o (with_replaced order s h (change row)))
      by_refusal (Some why) e = AreIndices-undone has_key order total s h (undo row) row live equal match apart kept
      by_refusal None e =
          listed_replaced has_key order total s h (change row) match apart (ap is_some live) kept
          (not_banned (ban order s (Some h) (change row)) (spent s) (sym (refused_live order s h (change row) row live) ∙ e)).0
