-- What becomes of a container's nodes, lists and slots when a node leaves each list and then the store.
use Rattle.key_extract.specs.Digests.{Marks}
use Rattle.std.proofs.Common.{◌≡◌, ◌≢◌, ℕ, Bool, true, cond, not, List, [], ◌∷◌, map, Option, Some, None, refl, sym, ap, ◌∙◌, subst, ⊎_elim, ne_eqb, eq-eqb}
use Rattle.std.specs.Prelude.{filter}
use Rattle.std.specs.List.{AllByRecursion, filter_map}
use Rattle.std.specs.Option.{option_map_or}
use Rattle.std.specs.declared.cmp.Ordering.{Ordering}
use Rattle.std.proofs.lemmas.Bool.{cases_eq}
use Rattle.std.proofs.lemmas.Option.{same_Some}
use Rattle.std.proofs.lemmas.List.Elements.{recursion_from_All}
use Rattle.list_model.specs.Order.{EachPair}
use Rattle.list_model.specs.Walk.{without}
use Rattle.list_model.proofs.InOrder.{All-map}
use Rattle.list_model.proofs.Kept.{EachPair-filter}
use Rattle.node_store.specs.declared.Node.{Node}
use Rattle.node_store.specs.Store.{Store, IsStore, IsNodeOf, nodes, number_of}
use Rattle.node_store.specs.Age.{nodes_of}
use Rattle.node_store.specs.ByNode.{contents, record_of, same_node, RemovesNode}
use Rattle.node_store.proofs.Age.{all_nodes_of, nodes_of-removed}
use Rattle.node_store.proofs.ByNode.{same_node-refl, others_removed, added_kept, records_kept, IsNodeOf_kept}
use Rattle.node_store.proofs.Ages.{IsStore_kept}
use Rattle.container_model.specs.declared.handle.Handle.{Handle}
use Rattle.container_model.specs.declared.handle.Entry.{Entry}
use Rattle.container_model.specs.State.{is_handle}
use Rattle.slot_table.specs.Slots.{item_at, with_item}
use Rattle.slot_table.proofs.Laws.{item_at-with_item}
use Rattle.index_set.specs.declared.parts.Parts.{Parts}
use Rattle.index_set.specs.Set as set
use Rattle.index_set.specs.Set.{store_of, lists_of, IsSound, IsKeyed, IsUniqueExcept}
use Rattle.index_set.specs.Writes.{IsTaken}
use Rattle.index_set.proofs.Members.{nodes_held}
use Rattle.index_set.specs.ByRow.{has_by_row, order_by_row, marks_by_row}
use Rattle.index_set.specs.declared.by_row.ByRow.{ByRow}
use Rattle.linked_set.specs.LeadsTo.{LeadsTo}
use Rattle.linked_set.specs.Linked.{handle_of, entries_in, handles_in}
use Rattle.linked_set.specs.Seen.{IsLinked}
use Rattle.linked_set.proofs.Contents.{has_record, handle_of-is, entries_kept, handles_kept}
use Rattle.linked_set.proofs.Filtered.{map_left, filter_map_left}
use Rattle.linked_set.proofs.ByHandle.{same_by_handle}
use Rattle.linked_set.proofs.LeadsTo.{leads_kept}

module _ {R : Type 0} (s t : Store (Entry R)) (slots : List (Option Node)) (store : IsStore s) (leads : LeadsTo s slots) (n : Node) (is : IsNodeOf s n) (removes : RemovesNode s t n) where
  -- its handle
  abbrev its : Handle
  its = handle_of (record_of s) n

  -- the nodes that are left
  pub was_there : (m : Node) → IsNodeOf t m → (m ≢ n) × IsNodeOf s m
  was_there m there =
      let apart : number_of m ≢ number_of n = λ e. let bad = sym there ∙ (ap (nodes t) e ∙ removes.nodes.changed) in cc in
      ((λ e. apart (ap number_of e)), sym (removes.nodes.others (number_of m) apart) ∙ there)

  handle_stays : (m : Node) → m ≢ n → handle_of (record_of t) m ≡ handle_of (record_of s) m
  handle_stays m other = ap (λ o. option_map_or (λ (x : Entry R). x.handle) o (record { slot = 0; stamp = 0 })) (removes.records.others m other)

  passes : (m : Node) → not (same_node n m) ≡ true → m ≢ n
  passes m kept e = let bad = sym kept ∙ (ap (λ z. not (same_node n z)) e ∙ ap not (same_node-refl n)) in cc

  -- the records that are left
  pub entries_left : t.added ≡ s.added → entries_in (contents t) ≡ filter (λ e. not (is_handle its e.handle)) (entries_in (contents s))
  unfolding contents
  entries_left count =
      ap (filter_map (record_of t)) (nodes_of-removed s t n store is count removes)
      ∙ filter_map_left (record_of s) (record_of t) (λ m. not (same_node n m)) (λ e. not (is_handle its e.handle)) (nodes_of s)
      (All-map (IsNodeOf s) _
      (λ m there.
      let p = has_record s m there in (
        (p.0, (p.1, ap not (same_by_handle s slots leads n m is there ∙ ap (is_handle its) (handle_of-is (record_of s) m p.0 p.1)))),
        (λ kept. removes.records.others m (passes m kept)),
      )) (nodes_of s) (recursion_from_All _ (nodes_of s) (all_nodes_of s store)))

  -- and their handles
  pub handles_left : (lists : List (List Node)) → AllByRecursion (AllByRecursion (IsNodeOf s)) lists → handles_in (record_of t) (map (without (same_node n)) lists) ≡ map (λ list. filter (λ g. not (is_handle its g)) list) (handles_in (record_of s) lists)
  handles_left [] are = refl
  handles_left (xs ∷ lists) are =
      let first = map_left (handle_of (record_of s)) (handle_of (record_of t)) (λ m. not (same_node n m)) (λ g. not (is_handle its g)) xs (All-map (IsNodeOf s) _ (λ m there. (ap not (same_by_handle s slots leads n m is there), (λ kept. handle_stays m (passes m kept)))) xs are.0) in
      λ i. first i ∷ handles_left lists are.1 i

  elsewhere : (k : ℕ) → k ≢ its.slot → item_at (with_item slots its.slot None) k ≡ item_at slots k
  elsewhere k other = item_at-with_item slots its.slot None k ∙ ap (λ b. cond b None (item_at slots k)) (ne_eqb k its.slot other)

  -- the slots lead to them, once its own is free
  pub leads_left : LeadsTo t (with_item slots its.slot None)
  leads_left = record { node_at = node_at; slot_of = slot_of }
    where
      node_at : (m : Node) → IsNodeOf t m → item_at (with_item slots its.slot None) (handle_of (record_of t) m).slot ≡ Some m
      node_at m there =
          let was = was_there m there in
          let at = leads.node_at m was.1 in
          ap (λ (h : Handle). item_at (with_item slots its.slot None) h.slot) (handle_stays m was.0)
          ∙ (elsewhere (handle_of (record_of s) m).slot (λ e. was.0 (same_Some m n (sym at ∙ (ap (item_at slots) e ∙ leads.node_at n is))))
          ∙ at)

      slot_of : (k : ℕ) (m : Node) → item_at (with_item slots its.slot None) k ≡ Some m → IsNodeOf t m × ((handle_of (record_of t) m).slot ≡ k)
      slot_of k m at =
          ⊎_elim
          (λ (same : k ≡ its.slot).
          let none = item_at-with_item slots its.slot None k ∙ ap (λ b. cond b None (item_at slots k)) (eq-eqb k its.slot same) in
          let bad = sym at ∙ none in absurd (cc))
          (λ (other : k ≢ its.slot).
          let p = leads.slot_of k m (sym (elsewhere k other) ∙ at) in
          let apart : m ≢ n = λ e. other (sym p.1 ∙ ap (λ z. (handle_of (record_of s) z).slot) e) in
          (others_removed s t n is removes m apart p.0, ap (λ (h : Handle). h.slot) (handle_stays m apart) ∙ p.1))
          (cases_eq k its.slot)

module _ {E R : Type 0} (has_key : E → ℕ → Bool) (order : E → ℕ → R → R → Ordering) (marks : E → ℕ → R → Marks) where
  -- a set that a record was taken out of
  module _ (old new : Parts (Entry R) (ByRow E)) (slots : List (Option Node)) (linked : IsLinked has_key order marks old slots) (n : Node) (is : IsNodeOf (store_of old) n) (e : Entry R) (has : set.record_of old n ≡ Some e) (taken : IsTaken old new n) where
    abbrev mid : Store (Entry R)
    mid = taken.removed.before

    leads_mid : LeadsTo mid slots
    leads_mid = leads_kept (store_of old) mid slots taken.removed.was linked.leads

    is_mid : IsNodeOf mid n
    is_mid = IsNodeOf_kept (store_of old) mid n taken.removed.was is

    sound_mid : IsStore mid
    sound_mid = IsStore_kept (store_of old) mid taken.removed.was linked.sound.nodes

    own : handle_of (record_of mid) n ≡ e.handle
    own = handle_of-is (record_of mid) n e (ap (λ (r : Node → Option (Entry R)). r n) (records_kept (store_of old) mid taken.removed.was) ∙ has)

    count_mid : (store_of new).added ≡ mid.added
    count_mid = taken.count ∙ sym (added_kept (store_of old) mid taken.removed.was)

    -- the slot that it frees was taken
    pub slot_taken : item_at slots e.handle.slot ≢ None
    slot_taken free = let bad = sym (leads_mid.node_at n is_mid) ∙ (ap (λ (h : Handle). item_at slots h.slot) own ∙ free) in cc

    pub entries_shrunk : entries_in (set.contents new) ≡ filter (λ x. not (is_handle e.handle x.handle)) (entries_in (set.contents old))
    entries_shrunk =
        entries_left mid (store_of new) slots sound_mid leads_mid n is_mid taken.removed.removes count_mid
        ∙ (λ i. filter (λ x. not (is_handle (own i) x.handle)) (entries_kept (store_of old) mid taken.removed.was i))

    pub lists_shrunk : handles_in (set.record_of new) (lists_of new) ≡ map (λ list. filter (λ g. not (is_handle e.handle g)) list) (handles_in (set.record_of old) (lists_of old))
    lists_shrunk =
        let nodes_mid : AllByRecursion (AllByRecursion (IsNodeOf mid)) (lists_of old) =
        All-map _ _ (λ xs are. All-map _ _ (λ m there. IsNodeOf_kept (store_of old) mid m taken.removed.was there) xs are) (lists_of old) (nodes_held old linked.sound) in
        ap (handles_in (set.record_of new)) taken.lists
        ∙ handles_left mid (store_of new) slots sound_mid leads_mid n is_mid taken.removed.removes (lists_of old) nodes_mid
        ∙ (λ i. map (λ list. filter (λ g. not (is_handle (own i) g)) list) (handles_kept (store_of old) mid (lists_of old) taken.removed.was i))

    pub IsLinked_shrunk : IsSound (has_by_row has_key) new → IsKeyed (order_by_row order) (marks_by_row marks) new → IsUniqueExcept (order_by_row order) new None → IsLinked has_key order marks new (with_item slots e.handle.slot None)
    IsLinked_shrunk sound keyed unique = record {
      sound = sound;
      keyed = keyed;
      unique = unique;
      apart = subst (EachPair _) (sym entries_shrunk) (EachPair-filter _ _ (entries_in (set.contents old)) linked.apart);
      leads = subst (λ (h : Handle). LeadsTo (store_of new) (with_item slots h.slot None)) own (leads_left mid (store_of new) slots sound_mid leads_mid n is_mid taken.removed.removes);
    }
