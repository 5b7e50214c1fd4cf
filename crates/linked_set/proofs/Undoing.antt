-- What becomes of a container when the row of one record was changed in place, and the change was undone.
use Rattle.key_extract.specs.Digests.{Marks}
use Rattle.std.proofs.Common.{◌≡◌, ℕ, ◌+◌, Bool, true, false, not, ◌&&◌, cond, List, Option, Some, None, refl, sym, ap, ◌∙◌}
use Rattle.std.specs.Prelude.{option_map}
use Rattle.std.specs.Option.{option_map_or, is_some}
use Rattle.std.specs.declared.cmp.Ordering.{Ordering}
use Rattle.std.proofs.lemmas.Option.{same_Some}
use Rattle.node_store.specs.declared.Node.{Node}
use Rattle.node_store.specs.Store.{IsNodeOf}
use Rattle.container_model.specs.declared.handle.Handle.{Handle}
use Rattle.container_model.specs.declared.handle.Entry.{Entry}
use Rattle.container_model.specs.declared.refusal.Why.{Why}
use Rattle.container_model.specs.declared.refusal.Why.TheVariants.{Banned, Spent}
use Rattle.container_model.specs.Insert.{ban}
use Rattle.container_model.specs.Change.{spent, with_replaced, with_row}
use Rattle.index_set.specs.declared.parts.Parts.{Parts}
use Rattle.index_set.specs.Indices.{HoldIt}
use Rattle.index_set.specs.Set as set
use Rattle.index_set.specs.Set.{store_of, keys_of, specs_of, lists_of, IsSound, IsKeyed, IsUniqueExcept}
use Rattle.index_set.specs.Writes.{IsModifiedOrUndone}
use Rattle.index_set.specs.declared.by_row.ByRow.{ByRow}
use Rattle.index_set.specs.ByRow.{has_by_row, order_by_row, marks_by_row}
use Rattle.index_set.proofs.Held.{has_record, node_of_all}
use Rattle.index_set.proofs.Members.{nodes_held}
use Rattle.linked_set.specs.Linked.{handle_of, entries_in, handles_in}
use Rattle.linked_set.specs.Seen.{seen, IsLinked}
use Rattle.linked_set.proofs.Bans.{ban_of}
use Rattle.linked_set.proofs.Changed.{IsChanged, IsLinked_changed, changed_set, ban_changed, count_changed, handle_changed, seen_settled, there_mid}
use Rattle.linked_set.proofs.Rewritten.{handles_same, entries_rewritten}

-- ---- why a changed row may not stay

-- the refusal that a ban of a node makes, by its handle, or another where there is none
abbrev pub refused_by : (Node → Handle) → Option (ℕ × Node) → Option Why → Option Why
refused_by handle bans rest = option_map_or (λ (at : ℕ × Node). Some (Banned at.0 (handle at.1))) bans rest

refused_alike : (f g : Node → Handle) → ((m : Node) → f m ≡ g m) → (bans : Option (ℕ × Node)) (rest : Option Why) →
    refused_by f bans rest ≡ option_map_or (λ (at : ℕ × Handle). Some (Banned at.0 at.1)) (option_map (λ (at : ℕ × Node). (at.0, g at.1)) bans) rest
refused_alike f g same None rest = refl
refused_alike f g same (Some at) rest = λ i. Some (Banned at.0 (same at.1 i))

-- why a record may not stay as it was changed: another bans it, or no write is left
abbrev pub told_why : Bool → Option (ℕ × Node) → (Node → Handle) → Option Why
told_why stays bans handle = refused_by handle bans (cond stays None (Some Spent))

-- it stays where there is no such cause
pub stays_where : {A : Type 0} (stays : Bool) (bans : Option (ℕ × Node)) (handle : Node → Handle) (a b : A) → cond (stays && not (is_some bans)) a b ≡ option_map_or (λ why. b) (told_why stays bans handle) a
stays_where true None handle a b = refl
stays_where false None handle a b = refl
stays_where true (Some at) handle a b = refl
stays_where false (Some at) handle a b = refl

-- no write is left after the last number
pub spent_where : (last : Bool) → cond (not last) None (Some Spent) ≡ cond last (Some Spent) None
spent_where true = refl
spent_where false = refl

module _ {E R : Type 0} {has_key : E → ℕ → Bool} {order : E → ℕ → R → R → Ordering} {marks : E → ℕ → R → Marks} (old new : Parts (Entry R) (ByRow E)) (slots : List (Option Node)) (n : Node) (e : Entry R) (row undone : R) (bans : Option (ℕ × Node))
    (linked : IsLinked has_key order marks old slots) (held : HoldIt (lists_of old) n) (has : set.record_of old n ≡ Some e) where
  module _ (kept : Bool) (m : IsModifiedOrUndone order old new n e row undone bans kept) where
    pub changed_or_undone : IsChanged has_key order marks old new slots n e.handle (cond kept row undone)
    changed_or_undone = changed_set old new slots n e (cond kept row undone) linked held has m.contents (record { keys = m.same.keys; specs = m.same.specs; columns = m.same.columns })

    -- what keeps the changed record from staying keeps its row
    pub why_changed : (stays : Bool) (max writes : ℕ) → cond stays None (Some Spent) ≡ spent (seen old max writes) →
        told_why stays bans (handle_of (set.record_of new)) ≡ option_map_or (λ (at : ℕ × Handle). Some (Banned at.0 at.1)) (ban order (seen old max writes) (Some e.handle) row) (spent (seen old max writes))
    why_changed stays max writes rest =
        let w = changed_set old (set.with_record old n (record { handle = e.handle; row = row })) slots n e row linked held has refl (record { keys = refl; specs = refl; columns = refl }) in
        refused_alike (handle_of (set.record_of new)) (handle_of (set.record_of old)) (handle_changed changed_or_undone) bans (cond stays None (Some Spent))
        ∙ (λ i. option_map_or (λ (at : ℕ × Handle). Some (Banned at.0 at.1)) (ban_changed w bans m.ban_is max writes i) (rest i))

  -- the container as the change leaves it, or its undoing
  pub seen_either : (kept : Bool) → IsModifiedOrUndone order old new n e row undone bans kept → (max writes : ℕ) →
      seen new max (cond kept (writes + 1) writes) ≡ cond kept (with_replaced order (seen old max writes) e.handle row) (record (seen old max writes) { entries = with_row e.handle undone (entries_in (set.contents old)) })
  seen_either true m max writes = seen_settled (changed_or_undone true m) m.lists max writes
  seen_either false m max writes =
      let w = changed_or_undone false m in
      let entries = entries_rewritten (store_of old) (store_of new) n e.handle undone slots w.linked.sound.nodes w.linked.leads w.linked.apart w.is w.own w.after in
      let lists = ap (handles_in (set.record_of new)) m.lists ∙ handles_same (store_of old) (store_of new) n e.handle undone slots w.linked.sound.nodes w.linked.leads w.linked.apart w.is w.own w.after (lists_of old) in
      λ i. record { keys = (w.same.keys i).keys; specs = w.same.specs i; most = w.same.columns i; max = max; writes = writes; entries = entries i; lists = lists i }

-- ---- a call on nodes changed the row of a record, and undid the change where it may not stay

pub record IsTried {E R : Type 0} (has_key : E → ℕ → Bool) (order : E → ℕ → R → R → Ordering) (marks : E → ℕ → R → Marks) (old new : Parts (Entry R) (ByRow E)) (slots : List (Option Node)) (n : Node) (change undo : R → R) (bans : Option (ℕ × Node)) (stays : Bool) : Type 0 where
  pub linked : IsLinked has_key order marks old slots
  pub held : HoldIt (lists_of old) n
  pub sound : IsSound (has_by_row has_key) new
  pub keyed : IsKeyed (order_by_row order) (marks_by_row marks) new
  pub unique : IsUniqueExcept (order_by_row order) new None
  pub modified : (e : Entry R) → set.record_of old n ≡ Some e → IsModifiedOrUndone order old new n e (change e.row) (undo e.row) bans (stays && not (is_some bans))

module _ {E R : Type 0} {has_key : E → ℕ → Bool} {order : E → ℕ → R → R → Ordering} {marks : E → ℕ → R → Marks} {old new : Parts (Entry R) (ByRow E)} {slots : List (Option Node)} {n : Node} {change undo : R → R} {bans : Option (ℕ × Node)} {stays : Bool}
    (w : IsTried has_key order marks old new slots n change undo bans stays) where
  had : (e : Entry R) × (set.record_of old n ≡ Some e)
  had = has_record (store_of old) n (node_of_all old n w.linked.sound w.held)

  abbrev before : Entry R
  before = had.0

  abbrev own : Handle
  own = handle_of (set.record_of old) n

  abbrev kept : Bool
  kept = stays && not (is_some bans)

  tried : IsModifiedOrUndone order old new n before (change before.row) (undo before.row) bans kept
  tried = w.modified before had.1

  changed : IsChanged has_key order marks old new slots n before.handle (cond kept (change before.row) (undo before.row))
  changed = changed_or_undone old new slots n before (change before.row) (undo before.row) bans w.linked w.held had.1 kept tried

  pub linked_tried : IsLinked has_key order marks new slots
  linked_tried = IsLinked_changed changed w.sound w.keyed w.unique

  pub count_tried : (store_of new).added ≡ (store_of old).added
  count_tried = count_changed changed

  -- the node of the record that bans it is still there
  pub there_tried : (at : ℕ × Node) → bans ≡ Some at → IsNodeOf (store_of new) at.1
  there_tried at is =
      there_mid changed at.1
      (ban_of (IsNodeOf (store_of old)) (λ index a b. order (keys_of old).keys index a.row b.row) (set.record_of old) (lists_of old) (Some n) (record { handle = before.handle; row = change before.row }) 0 (specs_of old) at
      (nodes_held old w.linked.sound) (sym tried.ban_is ∙ is))

  -- by what is told of it, whatever the row was
  module _ (result : Option Why) (told : result ≡ told_why stays bans (handle_of (set.record_of new))) (r : R) (is : option_map (λ e. e.row) (set.record_of old n) ≡ Some r) where
    same : before.row ≡ r
    same = same_Some before.row r (sym (ap (option_map (λ (e : Entry R). e.row)) had.1) ∙ is)

    pub why_tried : (max writes : ℕ) → cond stays None (Some Spent) ≡ spent (seen old max writes) →
        result ≡ option_map_or (λ (at : ℕ × Handle). Some (Banned at.0 at.1)) (ban order (seen old max writes) (Some own) (change r)) (spent (seen old max writes))
    why_tried max writes rest =
        told
        ∙ (why_changed old new slots n before (change before.row) (undo before.row) bans w.linked w.held had.1 kept tried stays max writes rest
        ∙ (λ i. option_map_or (λ (at : ℕ × Handle). Some (Banned at.0 at.1)) (ban order (seen old max writes) (Some (sym changed.own i)) (change (same i))) (spent (seen old max writes))))

    pub left_tried : (max writes : ℕ) →
        seen new max (option_map_or (λ why. writes) result (writes + 1)) ≡ option_map_or (λ why. record (seen old max writes) { entries = with_row own (undo r) (entries_in (set.contents old)) }) result (with_replaced order (seen old max writes) own (change r))
    left_tried max writes =
        let handle = handle_of (set.record_of new) in
        ap (λ why. seen new max (option_map_or (λ _. writes) why (writes + 1))) told
        ∙ (ap (seen new max) (sym (stays_where stays bans handle (writes + 1) writes))
        ∙ (seen_either old new slots n before (change before.row) (undo before.row) bans w.linked w.held had.1 kept tried max writes
        ∙ (stays_where stays bans handle (with_replaced order (seen old max writes) before.handle (change before.row)) (record (seen old max writes) { entries = with_row before.handle (undo before.row) (entries_in (set.contents old)) })
        ∙ (λ i. option_map_or (λ why. record (seen old max writes) { entries = with_row (sym changed.own i) (undo (same i)) (entries_in (set.contents old)) }) (sym told i) (with_replaced order (seen old max writes) (sym changed.own i) (change (same i)))))))

    -- so is what an edit has become
    pub edit_tried : {A : Type 0} (edit : A) (applied undone : R → A) → ((e : Entry R) → set.record_of old n ≡ Some e → edit ≡ cond kept (applied e.row) (undone e.row)) → edit ≡ option_map_or (λ why. undone r) result (applied r)
    edit_tried edit applied undone is_so =
        is_so before had.1
        ∙ (stays_where stays bans (handle_of (set.record_of new)) (applied before.row) (undone before.row) ∙ (λ i. option_map_or (λ why. undone (same i)) (sym told i) (applied (same i))))
