-- What becomes of a set and its slots when a call on its nodes has changed the row of a record, which may be lost by it.
use Rattle.key_extract.specs.Digests.{Marks}
use Rattle.std.proofs.Common.{◌≡◌, ◌≢◌, ℕ, ◌+◌, Bool, List, Option, Some, None, refl, sym, ap, ◌∙◌, subst}
use Rattle.std.specs.Prelude.{option_map, IfSome, OnSome}
use Rattle.std.specs.Option.{option_map_or}
use Rattle.std.specs.declared.cmp.Ordering.{Ordering}
use Rattle.std.proofs.lemmas.Option.{same_Some}
use Rattle.node_store.specs.declared.Node.{Node}
use Rattle.node_store.specs.Store.{IsNodeOf}
use Rattle.container_model.specs.declared.handle.Handle.{Handle}
use Rattle.container_model.specs.declared.handle.Entry.{Entry}
use Rattle.container_model.specs.Insert.{ban}
use Rattle.container_model.specs.Change.{with_modified, with_erased, with_replaced}
use Rattle.slot_table.specs.Slots.{item_at, with_item}
use Rattle.index_set.specs.declared.change.Lost.{Lost}
use Rattle.index_set.specs.declared.parts.Parts.{Parts}
use Rattle.index_set.specs.declared.by_row.ByRow.{ByRow}
use Rattle.index_set.specs.ByRow.{has_by_row, order_by_row, marks_by_row}
use Rattle.index_set.specs.Indices.{HoldIt}
use Rattle.index_set.specs.Lists.{ban_from}
use Rattle.index_set.specs.Set.{store_of, keys_of, specs_of, record_of, lists_of, with_record, IsSound, IsKeyed, IsUniqueExcept}
use Rattle.index_set.specs.Writes.{IsModified, IsTaken}
use Rattle.index_set.proofs.Held.{has_record, node_of_all}
use Rattle.index_set.proofs.Members.{nodes_held}
use Rattle.linked_set.specs.Linked.{handle_of}
use Rattle.linked_set.specs.Modified.{told}
use Rattle.linked_set.specs.declared.modify.Modified.TheVariants.{Kept, Erased}
use Rattle.linked_set.specs.Seen.{seen, IsLinked}
use Rattle.linked_set.proofs.Bans.{ban_of}
use Rattle.linked_set.proofs.Barred.{ban_other}
use Rattle.linked_set.proofs.Changed.{IsChanged, changed_set, ban_changed, count_changed, seen_settled, IsLinked_changed, there_taken, handle_taken, slot_taken, count_taken, seen_taken, IsLinked_taken}
use Rattle.linked_set.proofs.Contents.{handle_of-is}

-- a linked set in which the row of a node's record was changed, and the set that the call left, with the record that it lost
pub record IsEdited {E R : Type 0} (has_key : E → ℕ → Bool) (order : E → ℕ → R → R → Ordering) (marks : E → ℕ → R → Marks) (old new : Parts (Entry R) (ByRow E)) (slots : List (Option Node)) (n : Node) (change : R → R) (lost : Option (Lost (Entry R))) : Type 0 where
  pub linked : IsLinked has_key order marks old slots
  pub held : HoldIt (lists_of old) n
  pub sound : IsSound (has_by_row has_key) new
  pub keyed : IsKeyed (order_by_row order) (marks_by_row marks) new
  pub unique : IsUniqueExcept (order_by_row order) new None
  pub modified : (e : Entry R) → record_of old n ≡ Some e → IsModified order old new n e (change e.row) lost

module _ {E R : Type 0} {has_key : E → ℕ → Bool} {order : E → ℕ → R → R → Ordering} {marks : E → ℕ → R → Marks} {old new : Parts (Entry R) (ByRow E)} {slots : List (Option Node)} {n : Node} {change : R → R} {lost : Option (Lost (Entry R))}
    (w : IsEdited has_key order marks old new slots n change lost) where
  had : (e : Entry R) × (record_of old n ≡ Some e)
  had = has_record (store_of old) n (node_of_all old n w.linked.sound w.held)

  abbrev before : Entry R
  before = had.0

  abbrev row : R
  row = change before.row

  abbrev entry : Entry R
  entry = record { handle = before.handle; row = row }

  abbrev own : Handle
  own = handle_of (record_of old) n

  its : own ≡ before.handle
  its = handle_of-is (record_of old) n before had.1

  told_of : IsModified order old new n before row lost
  told_of = w.modified before had.1

  -- the set once the row was written
  written : IsChanged has_key order marks old (with_record old n entry) slots n before.handle row
  written = changed_set old (with_record old n entry) slots n before row w.linked w.held had.1 refl (record { keys = refl; specs = refl; columns = refl })

  -- the index and the handle by which a record is lost
  abbrev by_handle : Option (Lost (Entry R)) → Option (ℕ × Handle)
  by_handle o = option_map (λ (at : ℕ × Node). (at.0, handle_of (record_of old) at.1)) (option_map (λ (l : Lost (Entry R)). (l.index, l.by)) o)

  -- whatever the row was
  module _ (r : R) (is : option_map (λ e. e.row) (record_of old n) ≡ Some r) where
    same : row ≡ change r
    same = ap change (same_Some before.row r (sym (ap (option_map (λ (e : Entry R). e.row)) had.1) ∙ is))

    ban_is : (max writes : ℕ) → by_handle lost ≡ ban order (seen old max writes) (Some own) (change r)
    ban_is max writes = ban_changed written (option_map (λ (l : Lost (Entry R)). (l.index, l.by)) lost) told_of.ban max writes ∙ (λ i. ban order (seen old max writes) (Some (sym its i)) (same i))

  -- where the record stays
  module _ (stays : lost ≡ None) where
    settled : IsChanged has_key order marks old new slots n before.handle row
    settled =
        let to = told_of.written stays in
        changed_set old new slots n before row w.linked w.held had.1 to.contents (record { keys = to.same.keys; specs = to.same.specs; columns = to.same.columns })

    pub linked_stays : IsLinked has_key order marks new slots
    linked_stays = IsLinked_changed settled w.sound w.keyed w.unique

    pub count_stays : (store_of new).added ≡ (store_of old).added
    count_stays = count_changed settled

    pub left_stays : (r : R) → option_map (λ e. e.row) (record_of old n) ≡ Some r → (max writes : ℕ) → seen new max (writes + 1) ≡ with_modified order (seen old max writes) own (change r)
    left_stays r is max writes =
        seen_settled settled (told_of.written stays).lists max writes
        ∙ ((λ i. with_replaced order (seen old max writes) (sym its i) (same r is i))
        ∙ ap (λ o. option_map_or (λ at. with_erased (seen old max writes) own) o (with_replaced order (seen old max writes) own (change r))) (ap by_handle (sym stays) ∙ ban_is r is max writes))

    pub told_stays : (r : R) → option_map (λ e. e.row) (record_of old n) ≡ Some r → (max writes : ℕ) → Kept ≡ told (ban order (seen old max writes) (Some own) (change r)) (change r)
    told_stays r is max writes = ap (λ o. told o (change r)) (ap by_handle (sym stays) ∙ ban_is r is max writes)

  -- where it is lost
  module _ (l : Lost (Entry R)) (goes : lost ≡ Some l) where
    gone : IsTaken (with_record old n entry) new n
    gone = subst (λ o. OnSome o (IsTaken (with_record old n entry) new n)) goes told_of.taken

    value : l.value ≡ entry
    value = subst (λ o. IfSome o (λ x. x.value ≡ entry)) goes told_of.handed_out

    barred : ban_from (order_by_row order (keys_of old)) (record_of old) (lists_of old) (Some n) entry 0 (specs_of old) ≡ Some (l.index, l.by)
    barred = sym told_of.ban ∙ ap (option_map (λ (x : Lost (Entry R)). (x.index, x.by))) goes

    other : l.by ≢ n
    other = ban_other (order_by_row order (keys_of old)) (record_of old) (lists_of old) n entry 0 (specs_of old) (l.index, l.by) barred

    pub slot_lost : item_at slots l.value.handle.slot ≢ None
    slot_lost = subst (λ (e : Entry R). item_at slots e.handle.slot ≢ None) (sym value) (slot_taken written new gone)

    pub there_lost : IsNodeOf (store_of new) l.by
    there_lost =
        there_taken written new gone l.by other
        (ban_of (IsNodeOf (store_of old)) (λ index a b. order (keys_of old).keys index a.row b.row) (record_of old) (lists_of old) (Some n) entry 0 (specs_of old) (l.index, l.by) (nodes_held old w.linked.sound) barred)

    pub linked_lost : IsLinked has_key order marks new (with_item slots l.value.handle.slot None)
    linked_lost = subst (λ (e : Entry R). IsLinked has_key order marks new (with_item slots e.handle.slot None)) (sym value) (IsLinked_taken written new gone w.sound w.keyed w.unique)

    pub count_lost : (store_of new).added ≡ (store_of old).added
    count_lost = count_taken written new gone

    pub left_lost : (r : R) → option_map (λ e. e.row) (record_of old n) ≡ Some r → (max writes : ℕ) → seen new max (writes + 1) ≡ with_modified order (seen old max writes) own (change r)
    left_lost r is max writes =
        seen_taken written new gone max writes
        ∙ ((λ i. with_erased (seen old max writes) (sym its i))
        ∙ ap (λ o. option_map_or (λ at. with_erased (seen old max writes) own) o (with_replaced order (seen old max writes) own (change r))) (ap by_handle (sym goes) ∙ ban_is r is max writes))

    pub told_lost : (by : Handle) → by ≡ handle_of (record_of new) l.by → (r : R) → option_map (λ e. e.row) (record_of old n) ≡ Some r → (max writes : ℕ) →
        Erased l.value.row l.index by ≡ told (ban order (seen old max writes) (Some own) (change r)) (change r)
    told_lost by by_is r is max writes =
        (λ i. Erased ((ap (λ (e : Entry R). e.row) value ∙ same r is) i) l.index ((by_is ∙ handle_taken written new gone l.by other) i))
        ∙ ap (λ o. told o (change r)) (ap by_handle (sym goes) ∙ ban_is r is max writes)
