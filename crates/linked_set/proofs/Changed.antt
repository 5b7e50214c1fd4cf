-- What becomes of a set when the row of one record was changed in place, and its node settled or was taken out.
use Rattle.key_extract.specs.Digests.{Marks}
use Rattle.std.proofs.Common.{◌≡◌, ◌≢◌, ℕ, ◌+◌, Bool, true, false, cond, not, List, [], ◌∷◌, map, Option, Some, None, refl, sym, ap, ◌∙◌, subst}
use Rattle.std.specs.Prelude.{filter, option_map}
use Rattle.std.specs.List.{AllByRecursion}
use Rattle.std.specs.Option.{option_map_or}
use Rattle.std.specs.declared.cmp.Ordering.{Ordering}
use Rattle.list_model.specs.Order.{EachPair}
use Rattle.list_model.specs.Walk.{without}
use Rattle.list_model.proofs.InOrder.{All-map}
use Rattle.list_model.proofs.Kept.{EachPair-filter}
use Rattle.node_store.specs.declared.Node.{Node}
use Rattle.node_store.specs.Store.{Store, IsStore, IsNodeOf, number_of}
use Rattle.node_store.specs.ByNode.{record_of, same_node}
use Rattle.node_store.proofs.Ages.{IsStore_kept}
use Rattle.node_store.proofs.ByNode.{added_kept, others_removed}
use Rattle.container_model.specs.declared.handle.Handle.{Handle}
use Rattle.container_model.specs.declared.handle.Entry.{Entry}
use Rattle.container_model.specs.State.{is_handle}
use Rattle.container_model.specs.Insert.{ban}
use Rattle.container_model.specs.Change.{settled_from, with_row, with_erased, with_replaced}
use Rattle.slot_table.specs.Slots.{item_at, with_item}
use Rattle.index_set.specs.declared.parts.Parts.{Parts}
use Rattle.index_set.specs.Each.{changed_from}
use Rattle.index_set.specs.Indices.{HoldIt}
use Rattle.index_set.specs.Lists.{ban_from, settled_at}
use Rattle.index_set.specs.Set as set
use Rattle.index_set.specs.Set.{store_of, keys_of, specs_of, lists_of, IsSound, IsKeyed, IsUniqueExcept, IsOfSame}
use Rattle.index_set.specs.Writes.{IsTaken}
use Rattle.index_set.proofs.Members.{nodes_held, distinct}
use Rattle.index_set.proofs.Written.{lists_written, sound_written}
use Rattle.index_set.proofs.Held.{node_of_all}
use Rattle.index_set.specs.ByRow.{has_by_row, order_by_row, marks_by_row}
use Rattle.index_set.specs.declared.by_row.ByRow.{ByRow}
use Rattle.linked_set.specs.LeadsTo.{LeadsTo}
use Rattle.linked_set.specs.Linked.{handle_of, entries_in, handles_in}
use Rattle.linked_set.specs.Seen.{seen, IsLinked}
use Rattle.linked_set.proofs.Bans.{ban_known}
use Rattle.linked_set.proofs.Contents.{handle_of-is}
use Rattle.linked_set.proofs.Excepted.{told_some}
use Rattle.linked_set.proofs.Left.{entries_left, handles_left, leads_left}
use Rattle.linked_set.proofs.Reading.{known_all}
use Rattle.linked_set.proofs.Seen.{seen_replaced, seen_only}
use Rattle.linked_set.proofs.Rewritten.{same_nodes, same_count, its_record, handles_same, handle_kept, entries_rewritten, apart_rewritten, leads_rewritten, lists_rewritten}

-- the records but for one are as before its row was changed
filter-with_row : {R : Type 0} (h : Handle) (row : R) (es : List (Entry R)) → filter (λ e. not (is_handle h e.handle)) (with_row h row es) ≡ filter (λ e. not (is_handle h e.handle)) es
filter-with_row h row [] = refl
filter-with_row h row (e ∷ es) = by_test e (filter (λ x. not (is_handle h x.handle)) (with_row h row es)) (filter (λ x. not (is_handle h x.handle)) es) (is_handle h e.handle) refl (filter-with_row h row es)
  where
    by_test : (x : Entry _) (l r : List (Entry _)) (b : Bool) → is_handle h x.handle ≡ b → l ≡ r →
        cond (not (is_handle h (cond b (record x { row = row }) x).handle)) (cond b (record x { row = row }) x ∷ l) l ≡ cond (not (is_handle h x.handle)) (x ∷ r) r
    by_test x l r true is rest = ap (λ b. cond (not b) (record x { row = row } ∷ l) l) is ∙ (rest ∙ sym (ap (λ b. cond (not b) (x ∷ r) r) is))
    by_test x l r false is rest = ap (λ z. cond (not (is_handle h x.handle)) (x ∷ z) z) rest

-- a set in which the row of one node's record was written, and whose lists may have changed since
pub record IsChanged {E R : Type 0} (has_key : E → ℕ → Bool) (order : E → ℕ → R → R → Ordering) (marks : E → ℕ → R → Marks) (old mid : Parts (Entry R) (ByRow E)) (slots : List (Option Node)) (n : Node) (h : Handle) (row : R) : Type 0 where
  pub linked : IsLinked has_key order marks old slots
  pub held : HoldIt (lists_of old) n
  pub is : IsNodeOf (store_of old) n
  pub own : handle_of (set.record_of old) n ≡ h
  pub after : set.contents mid ≡ set.contents (set.with_record old n (record { handle = h; row = row }))
  pub same : IsOfSame old mid

pub changed_set : {E R : Type 0} {has_key : E → ℕ → Bool} {order : E → ℕ → R → R → Ordering} {marks : E → ℕ → R → Marks} (old mid : Parts (Entry R) (ByRow E)) (slots : List (Option Node)) (n : Node) (e : Entry R) (row : R) →
    IsLinked has_key order marks old slots → HoldIt (lists_of old) n → set.record_of old n ≡ Some e → set.contents mid ≡ set.contents (set.with_record old n (record { handle = e.handle; row = row })) → IsOfSame (set.with_record old n (record { handle = e.handle; row = row })) mid → IsChanged has_key order marks old mid slots n e.handle row
changed_set old mid slots n e row linked held has after same = record { linked = linked; held = held; is = node_of_all old n linked.sound held; own = handle_of-is (set.record_of old) n e has; after = after; same = record { keys = same.keys; specs = same.specs; columns = same.columns } }

module _ {E R : Type 0} {has_key : E → ℕ → Bool} {order : E → ℕ → R → R → Ordering} {marks : E → ℕ → R → Marks} {old mid : Parts (Entry R) (ByRow E)} {slots : List (Option Node)} {n : Node} {h : Handle} {row : R} (w : IsChanged has_key order marks old mid slots n h row) where
  abbrev entry : Entry R
  entry = record { handle = h; row = row }

  -- what bans the changed record beside its node bans its row beside its handle
  pub ban_changed : (result : Option (ℕ × Node)) → result ≡ ban_from (order_by_row order (keys_of old)) (set.record_of old) (lists_of old) (Some n) entry 0 (specs_of old) →
      (max writes : ℕ) → option_map (λ at. (at.0, handle_of (set.record_of old) at.1)) result ≡ ban order (seen old max writes) (Some h) row
  ban_changed result found max writes =
      let told = told_some (store_of old) slots w.linked.leads n w.is (lists_of old) (nodes_held old w.linked.sound) in
      ap (option_map (λ at. (at.0, handle_of (set.record_of old) at.1))) found
      ∙ (sym (ban_known (order (keys_of old).keys) (set.record_of old) (entries_in (set.contents old)) (lists_of old) (Some n) (known_all old slots w.linked) told entry 0 (specs_of old))
      ∙ ap (λ g. ban order (seen old max writes) (Some g) row) w.own)

  -- the numbers of adds stay
  pub count_changed : (store_of mid).added ≡ (store_of old).added
  count_changed = same_count (store_of old) (store_of mid) n h row slots w.linked.sound.nodes w.linked.leads w.linked.apart w.is w.own w.after

  -- so do the handles
  pub handle_changed : (m : Node) → handle_of (set.record_of mid) m ≡ handle_of (set.record_of old) m
  handle_changed m = handle_kept (store_of old) (store_of mid) n h row slots w.linked.sound.nodes w.linked.leads w.linked.apart w.is w.own w.after m

  -- each node is still there
  pub there_mid : (m : Node) → IsNodeOf (store_of old) m → IsNodeOf (store_of mid) m
  there_mid m there = ap (λ (f : ℕ → Option Node). f (number_of m)) (same_nodes (store_of old) (store_of mid) n h row slots w.linked.sound.nodes w.linked.leads w.linked.apart w.is w.own w.after) ∙ there

  -- a set that is sound again is linked as before
  pub IsLinked_changed : IsSound (has_by_row has_key) mid → IsKeyed (order_by_row order) (marks_by_row marks) mid → IsUniqueExcept (order_by_row order) mid None → IsLinked has_key order marks mid slots
  IsLinked_changed sound keyed unique = record {
    sound = sound;
    keyed = keyed;
    unique = unique;
    apart = apart_rewritten (store_of old) (store_of mid) n h row slots w.linked.sound.nodes w.linked.leads w.linked.apart w.is w.own w.after;
    leads = leads_rewritten (store_of old) (store_of mid) n h row slots w.linked.sound.nodes w.linked.leads w.linked.apart w.is w.own w.after;
  }

  -- where it settled
  module _ (settled : lists_of mid ≡ changed_from (settled_at (order_by_row order (keys_of old)) (set.record_of mid) n) 0 (specs_of old) (lists_of old)) where
    lists_settled : handles_in (set.record_of mid) (lists_of mid) ≡ settled_from (order (keys_of old).keys) (entries_in (set.contents old)) h row 0 (specs_of old) (handles_in (set.record_of old) (lists_of old))
    lists_settled =
        ap (handles_in (set.record_of mid)) settled
        ∙ lists_rewritten (store_of old) (store_of mid) n h row slots w.linked.sound.nodes w.linked.leads w.linked.apart w.is w.own w.after (order (keys_of old).keys) (specs_of old) (lists_of old) w.held (distinct old w.linked.sound) (nodes_held old w.linked.sound)

    pub seen_settled : (max writes : ℕ) → seen mid max (writes + 1) ≡ with_replaced order (seen old max writes) h row
    seen_settled max writes =
        seen_replaced order old mid h row max writes w.same (entries_rewritten (store_of old) (store_of mid) n h row slots w.linked.sound.nodes w.linked.leads w.linked.apart w.is w.own w.after) lists_settled

  -- where the record was taken out then
  module _ (new : Parts (Entry R) (ByRow E)) (taken : IsTaken (set.with_record old n entry) new n) where
    abbrev before : Store (Entry R)
    before = taken.removed.before

    leads_before : LeadsTo before slots
    leads_before = leads_rewritten (store_of old) before n h row slots w.linked.sound.nodes w.linked.leads w.linked.apart w.is w.own taken.removed.was

    there_before : (m : Node) → IsNodeOf (store_of old) m → IsNodeOf before m
    there_before m there = ap (λ (f : ℕ → Option Node). f (number_of m)) (same_nodes (store_of old) before n h row slots w.linked.sound.nodes w.linked.leads w.linked.apart w.is w.own taken.removed.was) ∙ there

    sound_before : IsStore before
    sound_before = IsStore_kept (store_of (set.with_record old n entry)) before taken.removed.was (sound_written old n entry (has_by_row has_key) w.linked.sound).nodes

    own_before : handle_of (record_of before) n ≡ h
    own_before = handle_of-is (record_of before) n entry (its_record (store_of old) before n h row slots w.linked.sound.nodes w.linked.leads w.linked.apart w.is w.own taken.removed.was)

    added_before : (store_of new).added ≡ before.added
    added_before = taken.count ∙ sym (added_kept (store_of (set.with_record old n entry)) before taken.removed.was)

    -- another node is still there, and has its handle
    pub there_taken : (m : Node) → m ≢ n → IsNodeOf (store_of old) m → IsNodeOf (store_of new) m
    there_taken m other there = others_removed before (store_of new) n (there_before n w.is) taken.removed.removes m other (there_before m there)

    pub handle_taken : (m : Node) → m ≢ n → handle_of (set.record_of new) m ≡ handle_of (set.record_of old) m
    handle_taken m other =
        ap (λ o. option_map_or (λ (x : Entry R). x.handle) o (record { slot = 0; stamp = 0 })) (taken.removed.removes.records.others m other)
        ∙ handle_kept (store_of old) before n h row slots w.linked.sound.nodes w.linked.leads w.linked.apart w.is w.own taken.removed.was m

    -- the slot that it frees was taken
    pub slot_taken : item_at slots h.slot ≢ None
    slot_taken free = let bad = sym (leads_before.node_at n (there_before n w.is)) ∙ (ap (λ (g : Handle). item_at slots g.slot) own_before ∙ free) in cc

    pub count_taken : (store_of new).added ≡ (store_of old).added
    count_taken = added_before ∙ same_count (store_of old) before n h row slots w.linked.sound.nodes w.linked.leads w.linked.apart w.is w.own taken.removed.was

    entries_taken : entries_in (set.contents new) ≡ filter (λ x. not (is_handle h x.handle)) (entries_in (set.contents old))
    entries_taken =
        entries_left before (store_of new) slots sound_before leads_before n (there_before n w.is) taken.removed.removes added_before
        ∙ ((λ i. filter (λ x. not (is_handle (own_before i) x.handle)) (entries_rewritten (store_of old) before n h row slots w.linked.sound.nodes w.linked.leads w.linked.apart w.is w.own taken.removed.was i))
        ∙ filter-with_row h row (entries_in (set.contents old)))

    lists_taken : handles_in (set.record_of new) (lists_of new) ≡ map (λ list. filter (λ g. not (is_handle h g)) list) (handles_in (set.record_of old) (lists_of old))
    lists_taken =
        let nodes_before : AllByRecursion (AllByRecursion (IsNodeOf before)) (lists_of old) = All-map _ _ (λ xs are. All-map _ _ (λ m there. there_before m there) xs are) (lists_of old) (nodes_held old w.linked.sound) in
        ap (handles_in (set.record_of new)) (taken.lists ∙ ap (map (without (same_node n))) (lists_written old n entry))
        ∙ (handles_left before (store_of new) slots sound_before leads_before n (there_before n w.is) taken.removed.removes (lists_of old) nodes_before
        ∙ (λ i. map (λ list. filter (λ g. not (is_handle (own_before i) g)) list) (handles_same (store_of old) before n h row slots w.linked.sound.nodes w.linked.leads w.linked.apart w.is w.own taken.removed.was (lists_of old) i)))

    pub seen_taken : (max writes : ℕ) → seen new max (writes + 1) ≡ with_erased (seen old max writes) h
    seen_taken max writes = seen_only old new (λ g. not (is_handle h g)) max writes (record { keys = taken.same.keys; specs = taken.same.specs; columns = taken.same.columns }) entries_taken lists_taken

    pub IsLinked_taken : IsSound (has_by_row has_key) new → IsKeyed (order_by_row order) (marks_by_row marks) new → IsUniqueExcept (order_by_row order) new None → IsLinked has_key order marks new (with_item slots h.slot None)
    IsLinked_taken sound keyed unique = record {
      sound = sound;
      keyed = keyed;
      unique = unique;
      apart = subst (EachPair _) (sym entries_taken) (EachPair-filter _ _ (entries_in (set.contents old)) w.linked.apart);
      leads = subst (λ (g : Handle). LeadsTo (store_of new) (with_item slots g.slot None)) own_before (leads_left before (store_of new) slots sound_before leads_before n (there_before n w.is) taken.removed.removes);
    }
