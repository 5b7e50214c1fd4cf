-- What each write makes of the lists of the indices.
use Rattle.std.proofs.Common.{◌≡◌, ℕ, ◌+◌, ◌==◌, Bool, true, false, not, List, [], ◌∷◌, ◌++◌, Option, Some, None, refl, sym, ap, ◌∙◌, subst}
use Rattle.std.specs.Prelude.{IsTrue}
use Rattle.std.specs.Cmp.{IsTotalOrder}
use Rattle.std.specs.Option.{option_map_or}
use Rattle.std.specs.declared.cmp.Ordering.{Ordering}
use Rattle.list_model.specs.Order.{EachPair}
use Rattle.container_model.specs.declared.handle.Handle.{Handle}
use Rattle.container_model.specs.declared.handle.Entry.{Entry}
use Rattle.container_model.specs.declared.handle.Spec.{Spec}
use Rattle.container_model.specs.declared.refusal.Why.{Why}
use Rattle.container_model.specs.declared.refusal.Why.TheVariants.{Banned}
use Rattle.container_model.specs.State.{State, AreIndices, KeysMatch, is_handle}
use Rattle.container_model.specs.Find.{is_live}
use Rattle.container_model.specs.Insert.{At, ban, entered_from, free_slot, is_free, new_handle, with_inserted}
use Rattle.container_model.specs.Change.{with_erased, with_modified, with_replaced}
use Rattle.container_model.proofs.Entered.{all_kept}
use Rattle.container_model.proofs.Erased.{AreIndices-only}
use Rattle.container_model.proofs.Found.{row_of-push}
use Rattle.container_model.proofs.FreeSlot.{free_slot-is_free}
use Rattle.container_model.proofs.Handles.{free_is_apart}
use Rattle.container_model.proofs.Replaced.{all_replaced}
use Rattle.index_set.specs.declared.parts.Parts.{Parts}
use Rattle.index_set.specs.Set.{store_of, keys_of, specs_of, columns_of, contents, record_of, lists_of, IsOfSame}
use Rattle.index_set.specs.declared.by_row.ByRow.{ByRow}
use Rattle.linked_set.specs.Linked.{entries_in, handles_in}
use Rattle.linked_set.specs.Records.{Records, AreListed, records_in}
use Rattle.linked_set.specs.Seen.{seen}
use Rattle.linked_set.proofs.Seen.{state_with}

-- the lists of a container are those of its indices
abbrev pub AreListedIn : {E R : Type 0} → (E → ℕ → R → R → Ordering) → State E R → Type 0
AreListedIn order s = AreIndices (order s.keys) s.entries 0 s.specs s.lists

-- so where the container is another one by its limit and its writes alone
pub listed_by : {E R : Type 0} (order : E → ℕ → R → R → Ordering) (set : Parts (Entry R) (ByRow E)) (max writes : ℕ) (s : State E R) → seen set max writes ≡ s → AreListedIn order s → AreListed order (records_in set)
listed_by order set max writes s is kept = subst (AreListedIn order) (sym is) kept

-- ---- refusals

-- where nothing refuses a row, no record bans it, and nothing else keeps it out
pub not_banned : (o : Option (ℕ × Handle)) (rest : Option Why) → option_map_or (λ at. Some (Banned at.0 at.1)) o rest ≡ None → (o ≡ None) × (rest ≡ None)
not_banned None rest e = (refl, e)
not_banned (Some at) rest e = absurd (cc)

-- ---- other entries and other lists

module _ {E R : Type 0} (order : E → ℕ → R → R → Ordering) (old new : Parts (Entry R) (ByRow E)) (same : IsOfSame old new) where
  pub listed_after : (entries : List (Entry R)) (lists : List (List Handle)) → entries_in (contents new) ≡ entries → handles_in (record_of new) (lists_of new) ≡ lists →
      AreIndices (order (keys_of old).keys) entries 0 (specs_of old) lists → AreListed order (records_in new)
  listed_after entries lists e l kept = subst (AreListedIn order) (sym (λ i. state_with (same.columns i) 0 0 (same.keys i).keys (same.specs i) (e i) (l i))) kept

  module _ (at : At) (e : Entry R) (entries : entries_in (contents new) ≡ entries_in (contents old) ++ e ∷ [])
      (lists : handles_in (record_of new) (lists_of new) ≡ entered_from (order (keys_of old).keys) (entries_in (contents old)) at e.row e.handle 0 (specs_of old) (handles_in (record_of old) (lists_of old))) where
    -- with one more
    pub listed_entered : (has_key : E → ℕ → Bool) → ((keys : E) (i : ℕ) → IsTrue (has_key keys i) → IsTotalOrder (order keys i)) → KeysMatch (has_key (keys_of old).keys) (specs_of old) →
        EachPair (λ a b. (b.handle.slot == a.handle.slot) ≡ false) (entries_in (contents old)) → e.handle.slot ≡ free_slot (entries_in (contents old)) → ban order (seen old 0 0) None e.row ≡ None →
        AreListed order (records_in old) → AreListed order (records_in new)
    listed_entered has_key total match apart slot allowed kept =
        let before = entries_in (contents old) in
        let fresh = free_is_apart e.handle.slot before (ap (is_free before) slot ∙ free_slot-is_free before) in
        listed_after _ _ entries lists
        (all_kept (has_key (keys_of old).keys) (order (keys_of old).keys) (total (keys_of old).keys) before e at (specs_of old) (handles_in (record_of old) (lists_of old)) match
        apart (row_of-push before e fresh) 0 (specs_of old) (handles_in (record_of old) (lists_of old)) refl refl allowed kept)

    -- the container is the one with the row put in
    pub seen_inserted : (max writes : ℕ) → e.handle ≡ new_handle (seen old max writes) → seen new max (writes + 1) ≡ with_inserted order (seen old max writes) at e.row
    seen_inserted max writes handle =
        (λ i. state_with (same.columns i) max (writes + 1) (same.keys i).keys (same.specs i) (entries i) (lists i))
        ∙ ap (λ (h : Handle). state_with (columns_of old) max (writes + 1) (keys_of old).keys (specs_of old) (entries_in (contents old) ++ record { handle = h; row = e.row } ∷ [])
        (entered_from (order (keys_of old).keys) (entries_in (contents old)) at e.row h 0 (specs_of old) (handles_in (record_of old) (lists_of old)))) handle

abbrev records_with : {E R : Type 0} → E → List Spec → ℕ → List (Entry R) → List (List Handle) → ℕ → Records E R
records_with keys specs most entries lists added = record { keys = keys; specs = specs; most = most; entries = entries; lists = lists; added = added }

-- a set with the entries and the lists that it had has the records that it had
pub records_kept : {E R : Type 0} (old new : Parts (Entry R) (ByRow E)) → IsOfSame old new → entries_in (contents new) ≡ entries_in (contents old) → handles_in (record_of new) (lists_of new) ≡ handles_in (record_of old) (lists_of old) →
    (store_of new).added ≡ (store_of old).added → records_in new ≡ records_in old
records_kept old new same entries lists added = λ i. records_with (same.keys i).keys (same.specs i) (same.columns i) (entries i) (lists i) (added i)

-- ---- another row for a record

module _ {E R : Type 0} (has_key : E → ℕ → Bool) (order : E → ℕ → R → R → Ordering) (total : (keys : E) (i : ℕ) → IsTrue (has_key keys i) → IsTotalOrder (order keys i)) (s : State E R) (h : Handle) (row : R)
    (match : KeysMatch (has_key s.keys) s.specs) (apart : EachPair (λ a b. (b.handle.slot == a.handle.slot) ≡ false) s.entries) (live : is_live s h ≡ true) (kept : AreListedIn order s) where
  -- that no other record bans
  pub listed_replaced : ban order s (Some h) row ≡ None → AreListedIn order (with_replaced order s h row)
  listed_replaced allowed = all_replaced h row (has_key s.keys) (order s.keys) (total s.keys) s.entries s.specs s.lists match apart live 0 s.specs s.lists refl refl allowed kept

  -- and any, by which the record may be lost
  pub listed_modified : AreListedIn order (with_modified order s h row)
  listed_modified = by_ban (ban order s (Some h) row) refl
    where
      by_ban : (at : Option (ℕ × Handle)) → ban order s (Some h) row ≡ at → AreListedIn order (option_map_or (λ by. with_erased s h) at (with_replaced order s h row))
      by_ban None e = listed_replaced e
      by_ban (Some at) e = AreIndices-only (λ g. not (is_handle h g)) s.entries (order s.keys) 0 s.specs s.lists kept
