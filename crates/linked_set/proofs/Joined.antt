-- What becomes of a container's nodes, lists and slots when a node joins the store and then each list.
use Rattle.key_extract.specs.Digests.{Marks}
use Rattle.std.proofs.Common.{◌≡◌, ℕ, ◌+◌, ◌==◌, Bool, false, List, [], ◌∷◌, ◌++◌, Option, Some, None, refl, sym, ap, ◌∙◌, subst, arith}
use Rattle.std.specs.Prelude.{option_map}
use Rattle.std.specs.List.{AllByRecursion}
use Rattle.std.specs.declared.cmp.Ordering.{Ordering}
use Rattle.list_model.specs.Order.{EachPair}
use Rattle.list_model.proofs.InOrder.{All-map}
use Rattle.list_model.proofs.Lists.{EachPair-push}
use Rattle.node_store.specs.declared.Node.{Node}
use Rattle.node_store.specs.Store.{Store, IsStore, IsNodeOf, age_of}
use Rattle.node_store.specs.ByNode.{contents, record_of, AddsNode}
use Rattle.node_store.proofs.Ages.{age_below, IsStore_kept}
use Rattle.node_store.proofs.ByNode.{added_kept, ages_kept, records_kept, IsNodeOf_kept}
use Rattle.container_model.specs.declared.handle.Entry.{Entry}
use Rattle.container_model.specs.declared.handle.Spec.{Spec}
use Rattle.container_model.specs.Insert.{At, entered_from, is_free, ban_from as ban_of_handles}
use Rattle.container_model.proofs.FreeSlot.{free_slot-is_free}
use Rattle.container_model.proofs.Handles.{free_is_apart}
use Rattle.slot_table.specs.Slots.{first_free, with_item}
use Rattle.index_set.specs.declared.parts.Parts.{Parts}
use Rattle.index_set.specs.Set as set
use Rattle.index_set.specs.Set.{store_of, keys_of, specs_of, lists_of, IsSound, IsKeyed, IsUniqueExcept, IsOfSame}
use Rattle.index_set.specs.Writes.{IsPut}
use Rattle.index_set.proofs.Members.{nodes_held}
use Rattle.index_set.proofs.Keys.{unique_kept}
use Rattle.index_set.specs.Each.{changed_from}
use Rattle.index_set.specs.Lists.{entered_at, ban_from}
use Rattle.index_set.specs.ByRow.{has_by_row, order_by_row, marks_by_row}
use Rattle.index_set.specs.declared.by_row.ByRow.{ByRow}
use Rattle.linked_set.specs.Seen.{IsLinked}
use Rattle.linked_set.specs.Linked.{handle_of, entries_in, handles_in, IsKnown}
use Rattle.linked_set.specs.LeadsTo.{LeadsTo}
use Rattle.linked_set.proofs.Bans.{ban_known, told_none}
use Rattle.linked_set.proofs.Contents.{known, entries_added, entries_kept, handles_added, handles_kept, known_added, record_added}
use Rattle.linked_set.proofs.Entered.{AreOlder, entered_all}
use Rattle.linked_set.proofs.LeadsTo.{leads_kept, leads_added, free_slot-is_first_free}

-- nothing was found where nothing was made of it
pub none_before : {A B : Type 0} (f : A → B) (o : Option A) → option_map f o ≡ None → o ≡ None
none_before f None e = refl
none_before f (Some a) e = absurd (cc)

module _ {R : Type 0} (order : ℕ → R → R → Ordering) (specs : List Spec) (at : At) (s t u : Store (Entry R)) (lists : List (List Node)) (n : Node) (e : Entry R) (slots : List (Option Node))
    (store : IsStore s) (apart : EachPair (λ a b. (b.handle.slot == a.handle.slot) ≡ false) (entries_in (contents s))) (leads : LeadsTo s slots)
    (nodes : AllByRecursion (AllByRecursion (IsNodeOf s)) lists)
    (adds : AddsNode s t n e) (age : age_of t n ≡ s.added) (count : t.added ≡ s.added + 1) (after : contents u ≡ contents t) (slot : e.handle.slot ≡ first_free slots) where
  abbrev by_rows : ℕ → Entry R → Entry R → Ordering
  by_rows index a b = order index a.row b.row

  known_now : AllByRecursion (AllByRecursion (IsKnown (record_of t) (entries_in (contents s)))) lists
  known_now = All-map _ _ (λ xs are. All-map _ _ (λ m is. known_added s t n e adds (entries_in (contents s)) m is (known s m store apart is)) xs are) lists nodes

  older_now : AllByRecursion (AreOlder (age_of t) n) lists
  older_now = All-map _ _ (λ xs are. All-map _ _ (λ m is. omega (arith, adds.ages m is, age_below s store m is, age)) xs are) lists nodes

  -- its record is the last entry
  pub entries_joined : entries_in (contents u) ≡ entries_in (contents s) ++ e ∷ []
  entries_joined = entries_kept t u after ∙ entries_added s t n e adds store count

  -- its handle stands where a row is put in
  pub lists_joined : handles_in (record_of u) (changed_from (entered_at by_rows (record_of t) (age_of t) at n) 0 specs lists) ≡ entered_from order (entries_in (contents s)) at e.row e.handle 0 specs (handles_in (record_of s) lists)
  lists_joined =
      handles_kept t u (changed_from (entered_at by_rows (record_of t) (age_of t) at n) 0 specs lists) after
      ∙ (entered_all (record_of t) (entries_in (contents s)) n e (record_added s t n e adds) (age_of t) order at 0 specs lists known_now older_now
      ∙ ap (entered_from order (entries_in (contents s)) at e.row e.handle 0 specs) (handles_added s t n e adds lists nodes))

  -- no two records lie in one slot
  pub apart_joined : EachPair (λ a b. (b.handle.slot == a.handle.slot) ≡ false) (entries_in (contents u))
  apart_joined =
      let entries = entries_in (contents s) in
      let free : is_free entries e.handle.slot ≡ _ = ap (is_free entries) (slot ∙ sym (free_slot-is_first_free s slots store leads)) ∙ free_slot-is_free entries in
      subst (EachPair _) (sym entries_joined) (EachPair-push _ entries e (free_is_apart e.handle.slot entries free) apart)

  -- the slots lead to it
  pub leads_joined : LeadsTo u (with_item slots (first_free slots) (Some n))
  leads_joined = leads_kept t u _ after (leads_added s t n e slots adds slot leads)

-- what bans no row bans no record of it
pub allowed_record : {R : Type 0} (order : ℕ → R → R → Ordering) (specs : List Spec) (s : Store (Entry R)) (lists : List (List Node)) (e : Entry R) → IsStore s → EachPair (λ a b. (b.handle.slot == a.handle.slot) ≡ false) (entries_in (contents s)) → AllByRecursion (AllByRecursion (IsNodeOf s)) lists →
    ban_of_handles order (entries_in (contents s)) (handles_in (record_of s) lists) None e.row 0 specs ≡ None → ban_from (λ index a b. order index a.row b.row) (record_of s) lists None e 0 specs ≡ None
allowed_record order specs s lists e store apart nodes allowed =
    none_before (λ at. (at.0, handle_of (record_of s) at.1)) _
    (sym (ban_known order (record_of s) (entries_in (contents s)) lists None (All-map _ _ (λ xs are. All-map _ _ (λ m is. known s m store apart is) xs are) lists nodes) (told_none (record_of s) lists) e 0 specs) ∙ allowed)

module _ {E R : Type 0} (has_key : E → ℕ → Bool) (order : E → ℕ → R → R → Ordering) (marks : E → ℕ → R → Marks) where
  -- a set with the same nodes and lists is linked as the old one is
  pub IsLinked_kept : (old new : Parts (Entry R) (ByRow E)) (slots : List (Option Node)) → IsOfSame old new → set.contents new ≡ set.contents old → lists_of new ≡ lists_of old → IsSound (has_by_row has_key) new →
      IsKeyed (order_by_row order) (marks_by_row marks) new → IsLinked has_key order marks old slots → IsLinked has_key order marks new slots
  IsLinked_kept old new slots same contents lists sound keyed linked = record {
    sound = sound;
    keyed = keyed;
    unique = unique_kept (order_by_row order) old new None same lists contents linked.unique;
    apart = subst (EachPair _) (sym (entries_kept (store_of old) (store_of new) contents)) linked.apart;
    leads = leads_kept (store_of old) (store_of new) slots contents linked.leads;
  }

  -- a set that a record was put into
  module _ (old new : Parts (Entry R) (ByRow E)) (slots : List (Option Node)) (at : At) (n : Node) (e : Entry R) (linked : IsLinked has_key order marks old slots) (put : IsPut (order_by_row order) old new n e at) (slot : e.handle.slot ≡ first_free slots) where
    abbrev before : Store (Entry R)
    before = put.added.before

    abbrev after : Store (Entry R)
    after = put.added.after

    sound_before : IsStore before
    sound_before = IsStore_kept (store_of old) before put.added.was linked.sound.nodes

    apart_before : EachPair (λ a b. (b.handle.slot == a.handle.slot) ≡ false) (entries_in (contents before))
    apart_before = subst (EachPair _) (sym (entries_kept (store_of old) before put.added.was)) linked.apart

    leads_before : LeadsTo before slots
    leads_before = leads_kept (store_of old) before slots put.added.was linked.leads

    nodes_before : AllByRecursion (AllByRecursion (IsNodeOf before)) (lists_of old)
    nodes_before = All-map _ _ (λ xs are. All-map _ _ (λ m is. IsNodeOf_kept (store_of old) before m put.added.was is) xs are) (lists_of old) (nodes_held old linked.sound)

    age_after : age_of after n ≡ before.added
    age_after = ap (λ (f : Node → ℕ). f n) (sym (ages_kept after (store_of new) put.added.is)) ∙ (put.age ∙ sym (added_kept (store_of old) before put.added.was))

    count_after : after.added ≡ before.added + 1
    count_after = sym (added_kept after (store_of new) put.added.is) ∙ (put.count ∙ ap (λ k. k + 1) (sym (added_kept (store_of old) before put.added.was)))

    new_lists : lists_of new ≡ changed_from (entered_at (order_by_row order (keys_of old)) (record_of after) (age_of after) at n) 0 (specs_of old) (lists_of old)
    new_lists =
        put.lists
        ∙ (λ i. changed_from (entered_at (order_by_row order (keys_of old)) (records_kept after (store_of new) put.added.is i) (ages_kept after (store_of new) put.added.is i) at n) 0 (specs_of old) (lists_of old))

    pub entries_grown : entries_in (set.contents new) ≡ entries_in (set.contents old) ++ e ∷ []
    entries_grown =
        entries_joined (order (keys_of old).keys) (specs_of old) at before after (store_of new) (lists_of old) n e slots sound_before apart_before leads_before nodes_before put.added.adds age_after count_after put.added.is slot
        ∙ ap (λ es. es ++ e ∷ []) (entries_kept (store_of old) before put.added.was)

    pub lists_grown : handles_in (set.record_of new) (lists_of new) ≡ entered_from (order (keys_of old).keys) (entries_in (set.contents old)) at e.row e.handle 0 (specs_of old) (handles_in (set.record_of old) (lists_of old))
    lists_grown =
        ap (handles_in (set.record_of new)) new_lists
        ∙ (lists_joined (order (keys_of old).keys) (specs_of old) at before after (store_of new) (lists_of old) n e slots sound_before apart_before leads_before nodes_before put.added.adds age_after count_after put.added.is slot
        ∙ (λ i. entered_from (order (keys_of old).keys) (entries_kept (store_of old) before put.added.was i) at e.row e.handle 0 (specs_of old) (handles_kept (store_of old) before (lists_of old) put.added.was i)))

    pub IsLinked_grown : IsSound (has_by_row has_key) new → IsKeyed (order_by_row order) (marks_by_row marks) new → IsUniqueExcept (order_by_row order) new None → IsLinked has_key order marks new (with_item slots (first_free slots) (Some n))
    IsLinked_grown sound keyed unique = record {
      sound = sound;
      keyed = keyed;
      unique = unique;
      apart = apart_joined (order (keys_of old).keys) (specs_of old) at before after (store_of new) (lists_of old) n e slots sound_before apart_before leads_before nodes_before put.added.adds age_after count_after put.added.is slot;
      leads = leads_joined (order (keys_of old).keys) (specs_of old) at before after (store_of new) (lists_of old) n e slots sound_before apart_before leads_before nodes_before put.added.adds age_after count_after put.added.is slot;
    }
