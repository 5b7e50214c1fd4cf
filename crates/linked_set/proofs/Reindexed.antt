-- A set with an index more or less, and what that makes of a container.
use Rattle.key_extract.specs.Digests.{Marks}
use Rattle.std.proofs.Common.{◌≡◌, ℕ, zero, suc, ◌+◌, Bool, List, [], ◌∷◌, ◌++◌, length, map, Option, Some, None, refl, sym, ap, ◌∙◌, subst, inl, inr}
use Rattle.std.specs.Prelude.{option_map, remove}
use Rattle.std.specs.List.{AllByRecursion}
use Rattle.std.specs.declared.cmp.Ordering.{Ordering}
use Rattle.std.proofs.lemmas.List.{map-append}
use Rattle.list_model.specs.Order.{EachPair}
use Rattle.list_model.proofs.InOrder.{All-map}
use Rattle.node_store.specs.declared.Node.{Node}
use Rattle.node_store.specs.Store.{IsNodeOf, age_of}
use Rattle.node_store.specs.ByNode as store
use Rattle.node_store.proofs.ByNode.{records_kept, IsNodeOf_kept}
use Rattle.container_model.specs.declared.handle.Entry.{Entry}
use Rattle.container_model.specs.declared.handle.Spec.{Spec}
use Rattle.container_model.specs.declared.refusal.Why.TheVariants as cause
use Rattle.container_model.specs.Indices.{clash, new_list, with_index, without_index}
use Rattle.index_set.specs.Added as nodes
use Rattle.index_set.specs.declared.build.NoIndex.{NoIndex}
use Rattle.index_set.specs.declared.build.NoIndex.TheVariants.{Columns, Clash, Memory}
use Rattle.index_set.specs.declared.parts.Parts.{Parts}
use Rattle.index_set.specs.Set.{store_of, keys_of, specs_of, columns_of, contents, record_of, lists_of, IsSound, IsKeyed, IsUniqueExcept, IsOfSame}
use Rattle.index_set.specs.declared.by_row.ByRow.{ByRow}
use Rattle.index_set.specs.ByRow.{has_by_row, order_by_row, marks_by_row}
use Rattle.linked_set.specs.Linked.{handle_of, nodes_in, entries_in, handles_in, IsKnown}
use Rattle.linked_set.specs.Refusal.{HasItsNodes, IsRefusal, by_handles}
use Rattle.linked_set.specs.Seen.{seen, IsLinked}
use Rattle.linked_set.proofs.ByAge.{nodes_rise, nodes_held}
use Rattle.linked_set.proofs.Clashes.{pair_of, clash_seen, clash_members}
use Rattle.linked_set.proofs.Contents.{known, handles_by_age, entries_kept, handles_kept}
use Rattle.linked_set.proofs.LeadsTo.{leads_kept}
use Rattle.linked_set.proofs.NewList.{by_rows, new_list_seen}
use Rattle.linked_set.proofs.Seen.{state_with}

map-remove : {X Y : Type 0} (f : X → Y) (xs : List X) (i : ℕ) → map f (remove xs i) ≡ remove (map f xs) i
map-remove f [] zero = refl
map-remove f [] (suc i) = refl
map-remove f (x ∷ xs) zero = refl
map-remove f (x ∷ xs) (suc i) = ap (λ l. f x ∷ l) (map-remove f xs i)

module _ {E R : Type 0} {has_key : E → ℕ → Bool} {order : E → ℕ → R → R → Ordering} {marks : E → ℕ → R → Marks} (old : Parts (Entry R) (ByRow E)) (slots : List (Option Node)) (linked : IsLinked has_key order marks old slots) where
  -- the records of the nodes are found by their handles
  pub known_by_age : AllByRecursion (IsKnown (record_of old) (entries_in (contents old))) (nodes_in (contents old))
  known_by_age = All-map _ _ (λ n is. known (store_of old) n linked.sound.nodes linked.apart is) (nodes_in (contents old)) (nodes_held (store_of old) linked.sound.nodes)

  -- a set with the same records is linked
  pub IsLinked_reindexed : (new : Parts (Entry R) (ByRow E)) → contents new ≡ contents old → IsSound (has_by_row has_key) new → IsKeyed (order_by_row order) (marks_by_row marks) new → IsUniqueExcept (order_by_row order) new None →
      IsLinked has_key order marks new slots
  IsLinked_reindexed new kept sound keyed unique = record {
    sound = sound;
    keyed = keyed;
    unique = unique;
    apart = subst (EachPair _) (sym (entries_kept (store_of old) (store_of new) kept)) linked.apart;
    leads = leads_kept (store_of old) (store_of new) slots kept linked.leads;
  }

  -- the container stays, where nothing else of the set changed
  pub seen_kept : (new : Parts (Entry R) (ByRow E)) (max writes : ℕ) → IsOfSame old new → contents new ≡ contents old → lists_of new ≡ lists_of old → seen new max writes ≡ seen old max writes
  seen_kept new max writes same kept lists =
      let handles = handles_kept (store_of old) (store_of new) (lists_of new) kept ∙ ap (handles_in (record_of old)) lists in
      λ i. state_with (same.columns i) max writes (same.keys i).keys (same.specs i) (entries_kept (store_of old) (store_of new) kept i) (handles i)

  module _ (spec : Spec) (keys : E) where
    abbrev new_order : R → R → Ordering
    new_order = order keys (length (specs_of old))

    -- the clash of the nodes
    abbrev node_clash : List Node → Option (Node × Node)
    node_clash ns = nodes.clash (by_rows (record_of old) (entries_in (contents old)) new_order) spec.unique ns

    -- is that of the records
    clash_by_age : (max writes : ℕ) → clash order (seen old max writes) spec keys ≡ option_map (pair_of (record_of old) (entries_in (contents old)) new_order) (node_clash (nodes_in (contents old)))
    unfolding store.contents
    clash_by_age max writes = clash_seen (record_of old) (entries_in (contents old)) new_order spec.unique (nodes_in (contents old)) known_by_age

    module _ (ns : List Node) (by_age : ns ≡ nodes_in (contents old)) where
      clash_is : (o : Option (Node × Node)) → node_clash ns ≡ o → clash order (seen old 0 0) spec keys ≡ option_map (pair_of (record_of old) (entries_in (contents old)) new_order) o
      clash_is o is = clash_by_age 0 0 ∙ ap (option_map (pair_of (record_of old) (entries_in (contents old)) new_order)) (ap node_clash (sym by_age) ∙ is)

      pub no_clash_seen : node_clash ns ≡ None → clash order (seen old 0 0) spec keys ≡ None
      no_clash_seen none = clash_is None none

      -- why the set refuses an index where it has room for one
      module _ (new : Parts (Entry R) (ByRow E)) (kept : contents new ≡ contents old) (room : nodes.HasColumn old) where
        pub refusal_seen : (why : NoIndex) → nodes.IsCause (nodes.HasColumn old) (node_clash ns) why → IsRefusal (clash order (seen old 0 0) spec keys) (by_handles (record_of new) why)
        refusal_seen Columns is = absurd (is room)
        refusal_seen (Clash first second) is =
            inr
            (ap (λ (records : Node → Option (Entry R)). Some (by_handles records (Clash first second))) (records_kept (store_of old) (store_of new) kept)
            ∙ ap (option_map (λ pair. cause.Clash pair.0 pair.1)) (sym (clash_is (Some (first, second)) is.1)))
        refusal_seen Memory is = inl refl

        -- its nodes are those of the set
        pub refusal_nodes : (why : NoIndex) → nodes.IsCause (nodes.HasColumn old) (node_clash ns) why → HasItsNodes (store_of new) why
        refusal_nodes Columns is = tt
        refusal_nodes (Clash first second) is =
            let held = clash_members (IsNodeOf (store_of old)) (by_rows (record_of old) (entries_in (contents old)) new_order) spec.unique ns (subst (AllByRecursion (IsNodeOf (store_of old))) (sym by_age) (nodes_held (store_of old) linked.sound.nodes)) first second is.1 in
            (IsNodeOf_kept (store_of old) (store_of new) first kept held.0, IsNodeOf_kept (store_of old) (store_of new) second kept held.1)
        refusal_nodes Memory is = tt

    -- the container is the one with the new index
    pub seen_indexed : (new : Parts (Entry R) (ByRow E)) (max writes : ℕ) → (keys_of new).keys ≡ keys → specs_of new ≡ specs_of old ++ spec ∷ [] → columns_of new ≡ columns_of old → contents new ≡ contents old →
        (ns : List Node) → ns ≡ nodes_in (contents old) → lists_of new ≡ lists_of old ++ nodes.entered_all (age_of (store_of old)) (by_rows (record_of old) (entries_in (contents old)) new_order) spec.kind [] ns ∷ [] →
        seen new max (writes + 1) ≡ with_index order (seen old max writes) spec keys
    seen_indexed new max writes same_keys specs columns kept ns is lists =
        let f = handle_of (record_of old) in
        let by_age = nodes_in (contents old) in
        let at_new = nodes.entered_all (age_of (store_of old)) (by_rows (record_of old) (entries_in (contents old)) new_order) spec.kind [] in
        let list = new_list_seen (record_of old) (entries_in (contents old)) new_order (age_of (store_of old)) spec.kind by_age known_by_age (nodes_rise (store_of old) linked.sound.nodes) (handles_by_age (store_of old) linked.sound.nodes) in
        let handles : handles_in (record_of new) (lists_of new) ≡ handles_in (record_of old) (lists_of old) ++ new_list new_order (entries_in (contents old)) spec.kind ∷ [] =
        handles_kept (store_of old) (store_of new) (lists_of new) kept ∙ ap (handles_in (record_of old)) lists
        ∙ map-append (map f) (lists_of old) (at_new ns ∷ []) ∙ ap (λ l. handles_in (record_of old) (lists_of old) ++ l ∷ []) (ap (λ l. map f (at_new l)) is ∙ list) in
        λ i. state_with (columns i) max (writes + 1) (same_keys i) (specs i) (entries_kept (store_of old) (store_of new) kept i) (handles i)

  -- and the one without an index
  pub seen_unindexed : (new : Parts (Entry R) (ByRow E)) (index : ℕ) (keys : E) (max writes : ℕ) → (keys_of new).keys ≡ keys → specs_of new ≡ remove (specs_of old) index → columns_of new ≡ columns_of old → contents new ≡ contents old →
      lists_of new ≡ remove (lists_of old) index → seen new max (writes + 1) ≡ without_index (seen old max writes) index keys
  seen_unindexed new index keys max writes same_keys specs columns kept lists =
      let handles = handles_kept (store_of old) (store_of new) (lists_of new) kept ∙ ap (handles_in (record_of old)) lists ∙ map-remove (map (handle_of (record_of old))) (lists_of old) index in
      λ i. state_with (columns i) max (writes + 1) (same_keys i) (specs i) (entries_kept (store_of old) (store_of new) kept i) (handles i)
