-- The slots lead to the nodes of a container: what they say of its entries, and how they come along when a node comes.
use Rattle.std.proofs.Common.{◌≡◌, ◌≢◌, ℕ, ◌==◌, Bool, true, false, cond, ◌||◌, not, List, [], ◌∷◌, Option, Some, None, refl, sym, ap, ◌∙◌, subst, ⊎_elim, eq-eqb, ne_eqb}
use Rattle.std.specs.Prelude.{find}
use Rattle.std.specs.List.{AllByRecursion, list_any}
use Rattle.std.specs.Option.{option_map}
use Rattle.std.specs.FinMap as map
use Rattle.std.specs.Ordering.{nat_cmp}
use Rattle.std.proofs.lemmas.Bool.{cases_eq, false_from_ne_true}
use Rattle.std.proofs.lemmas.Option.{same_Some}
use Rattle.std.proofs.lemmas.List.Elements.{All-from_recursion}
use Rattle.std.proofs.lemmas.List.Folds.{list_any_none}
use Rattle.node_store.specs.declared.Node.{Node}
use Rattle.node_store.specs.Store.{Entry as Kept, Store, IsStore, IsNodeOf, nodes, number_of, empty_store}
use Rattle.node_store.specs.ByNode.{record_of, contents, AddsNode}
use Rattle.node_store.proofs.ByNode.{node_cases, records_kept, IsNodeOf_kept, others_added}
use Rattle.list_model.specs.Order.{EachPair}
use Rattle.container_model.specs.declared.handle.Handle.{Handle}
use Rattle.container_model.specs.declared.handle.Entry.{Entry}
use Rattle.container_model.specs.State.{row_of, is_handle}
use Rattle.container_model.specs.Insert.{is_free, free_slot}
use Rattle.container_model.proofs.Found.{is_handle_same, row_of_members}
use Rattle.slot_table.specs.Slots.{item_at, first_free, with_item}
use Rattle.linked_set.specs.Linked.{handle_of, entries_in}
use Rattle.linked_set.specs.LeadsTo.{LeadsTo}
use Rattle.slot_table.proofs.Laws.{item_at-with_item, first_free-is_free}
use Rattle.linked_set.proofs.FreeSlots.{free_slot-first_free}
use Rattle.linked_set.proofs.Contents.{has_record, member, all_members, handle_of-is, handle_stays}

none_lies_in : {R : Type 0} (entries : List (Entry R)) (k : ℕ) → is_free entries k ≡ true → AllByRecursion (λ e. e.handle.slot ≢ k) entries
none_lies_in [] k free = tt
none_lies_in (e ∷ es) k free = by_head (e.handle.slot == k) refl free (none_lies_in es k)
  where
    by_head : (b : Bool) → (e.handle.slot == k) ≡ b → not (b || list_any (λ x. x.handle.slot == k) es) ≡ true → (is_free es k ≡ true → AllByRecursion (λ x. x.handle.slot ≢ k) es) → AllByRecursion (λ x. x.handle.slot ≢ k) (e ∷ es)
    by_head true is none rest = cc
    by_head false is none rest = ((λ same. let bad = sym (eq-eqb e.handle.slot k same) ∙ is in cc), rest none)

none_found : {R : Type 0} (h : Handle) (entries : List (Entry R)) → AllByRecursion (λ e. is_handle h e.handle ≡ false) entries → row_of entries h ≡ None
none_found h [] others = refl
none_found h (e ∷ es) others = ap (λ b. option_map (λ x. x.row) (cond b (Some e) (find (λ x. is_handle h x.handle) es))) others.0 ∙ none_found h es others.1

module _ {R : Type 0} (s : Store (Entry R)) (slots : List (Option Node)) (store : IsStore s) (leads : LeadsTo s slots) where
  -- a node lies in the slot of its record
  lies_at : (n : Node) (e : Entry R) → IsNodeOf s n → record_of s n ≡ Some e → item_at slots e.handle.slot ≡ Some n
  lies_at n e is has = ap (λ (h : Handle). item_at slots h.slot) (sym (handle_of-is (record_of s) n e has)) ∙ leads.node_at n is

  -- a slot is free where it leads to no node
  free_is_none : (k : ℕ) → is_free (entries_in (contents s)) k ≡ true → item_at slots k ≡ None
  free_is_none k free = by_item (item_at slots k) refl
    where
      by_item : (o : Option Node) → item_at slots k ≡ o → o ≡ None
      by_item None e = refl
      by_item (Some n) e =
          let at = leads.slot_of k n e in
          let p = has_record s n at.0 in
          let apart = member (λ x. x.handle.slot ≢ k) s n p.0 store at.0 p.1 (none_lies_in (entries_in (contents s)) k free) in
          absurd (apart (ap (λ (h : Handle). h.slot) (sym (handle_of-is (record_of s) n p.0 p.1)) ∙ at.1))

  pub none_is_free : (k : ℕ) → item_at slots k ≡ None → is_free (entries_in (contents s)) k ≡ true
  none_is_free k none =
      ap not (list_any_none _ (entries_in (contents s)) (All-from_recursion _ (entries_in (contents s))
      (all_members (λ e. (e.handle.slot == k) ≡ false) s store
      (λ n e is has. ne_eqb _ _ (λ same. let bad = sym (lies_at n e is has) ∙ (ap (item_at slots) same ∙ none) in cc)))))

  -- the least free slot is the one that the next record goes in
  pub free_slot-is_first_free : free_slot (entries_in (contents s)) ≡ first_free slots
  free_slot-is_first_free = free_slot-first_free (entries_in (contents s)) slots (λ k. (none_is_free k, free_is_none k))

  -- ---- live handles

  -- the node of the record that a handle names lies in the handle's slot
  named : (g : Handle) (n : Node) (e : Entry R) → IsNodeOf s n → record_of s n ≡ Some e → is_handle g e.handle ≡ true → item_at slots g.slot ≡ Some n
  named g n e is has same = ap (λ (h : Handle). item_at slots h.slot) (is_handle_same g e.handle same) ∙ lies_at n e is has

  none_named : (g : Handle) → ((n : Node) (e : Entry R) → IsNodeOf s n → record_of s n ≡ Some e → is_handle g e.handle ≢ true) → row_of (entries_in (contents s)) g ≡ None
  none_named g none = none_found g (entries_in (contents s)) (all_members (λ e. is_handle g e.handle ≡ false) s store (λ n e is has. false_from_ne_true _ (none n e is has)))

  -- a handle that is the one of the node in its slot names the node's record
  pub row_of_live : EachPair (λ a b. (b.handle.slot == a.handle.slot) ≡ false) (entries_in (contents s)) → (g : Handle) (n : Node) (e : Entry R) →
      item_at slots g.slot ≡ Some n → is_handle g (handle_of (record_of s) n) ≡ true → record_of s n ≡ Some e → row_of (entries_in (contents s)) g ≡ Some e.row
  row_of_live apart g n e at same has =
      let entries = entries_in (contents s) in
      let is : g ≡ e.handle = is_handle_same g _ same ∙ handle_of-is (record_of s) n e has in
      ap (row_of entries) is ∙ member (λ x. row_of entries x.handle ≡ Some x.row) s n e store (leads.slot_of g.slot n at).0 has (row_of_members entries apart)

  -- any other handle of its slot names nothing
  pub row_of_stale : (g : Handle) (n : Node) → item_at slots g.slot ≡ Some n → is_handle g (handle_of (record_of s) n) ≡ false → row_of (entries_in (contents s)) g ≡ None
  row_of_stale g n at other = none_named g
      (λ m e is has same.
      let one : m ≡ n = same_Some m n (sym (named g m e is has same) ∙ at) in
      let bad = sym same ∙ (ap (is_handle g) (sym (handle_of-is (record_of s) m e has) ∙ ap (handle_of (record_of s)) one) ∙ other) in cc)

  -- and where the slot is free, so does every handle
  pub row_of_free : (g : Handle) → item_at slots g.slot ≡ None → row_of (entries_in (contents s)) g ≡ None
  row_of_free g none = none_named g (λ n e is has same. let bad = sym (named g n e is has same) ∙ none in cc)

-- ---- while the contents stay, and without nodes

pub leads_kept : {R : Type 0} (old new : Store (Entry R)) (slots : List (Option Node)) → contents new ≡ contents old → LeadsTo old slots → LeadsTo new slots
leads_kept {R} old new slots same leads =
    let back : contents old ≡ contents new = sym same in
    let handle : (n : Node) → handle_of (record_of new) n ≡ handle_of (record_of old) n = λ n. ap (λ (r : Node → Option (Entry R)). handle_of r n) (records_kept old new same) in
    record {
      node_at = λ n is. ap (λ (h : Handle). item_at slots h.slot) (handle n) ∙ leads.node_at n (IsNodeOf_kept new old n back is);
      slot_of = λ k n at. let p = leads.slot_of k n at in (IsNodeOf_kept old new n same p.0, ap (λ (h : Handle). h.slot) (handle n) ∙ p.1);
    }

pub leads-empty : (R : Type 0) (width : ℕ) → LeadsTo (empty_store {R = Entry R} width) []
unfolding nodes
leads-empty R width = record {
  node_at = λ n is. let bad = sym is ∙ ap (option_map (λ (e : Kept (Entry R)). e.node)) (map.get-empty nat_cmp (number_of n)) in cc;
  slot_of = λ k n at. cc;
}

-- ---- when a node comes

-- a node other than the one that came was there
was_node : {X : Type 0} (old new : Store X) (n : Node) (x : X) → AddsNode old new n x → (m : Node) → m ≢ n → IsNodeOf new m → IsNodeOf old m
was_node old new n x adds m other is =
    ⊎_elim
    (λ (same : number_of m ≡ number_of n). absurd (other (same_Some m n (sym is ∙ (ap (nodes new) same ∙ adds.nodes.changed)))))
    (λ (apart : number_of m ≢ number_of n). sym (adds.nodes.others (number_of m) apart) ∙ is)
    (cases_eq (number_of m) (number_of n))

-- the slots lead to it too, once it is in a free one
pub leads_put : {R : Type 0} (old new : Store (Entry R)) (n : Node) (e : Entry R) (slots : List (Option Node)) (at : ℕ) → item_at slots at ≡ None → AddsNode old new n e → e.handle.slot ≡ at → LeadsTo old slots → LeadsTo new (with_item slots at (Some n))
leads_put old new n e slots put free adds slot leads = record { node_at = node_at; slot_of = slot_of }
  where
    here : item_at (with_item slots put (Some n)) put ≡ Some n
    here = item_at-with_item slots put (Some n) put ∙ ap (λ b. cond b (Some n) (item_at slots put)) (eq-eqb put put refl)

    elsewhere : (k : ℕ) → k ≢ put → item_at (with_item slots put (Some n)) k ≡ item_at slots k
    elsewhere k other = item_at-with_item slots put (Some n) k ∙ ap (λ b. cond b (Some n) (item_at slots k)) (ne_eqb k put other)

    own_slot : (handle_of (record_of new) n).slot ≡ put
    own_slot = ap (λ (h : Handle). h.slot) (handle_of-is (record_of new) n e adds.records.changed) ∙ slot

    slot_stays : (m : Node) → IsNodeOf old m → (handle_of (record_of new) m).slot ≡ (handle_of (record_of old) m).slot
    slot_stays m is = ap (λ (h : Handle). h.slot) (handle_stays old new n e adds m is)

    node_at : (m : Node) → IsNodeOf new m → item_at (with_item slots put (Some n)) (handle_of (record_of new) m).slot ≡ Some m
    node_at m is =
        ⊎_elim
        (λ (same : m ≡ n). ap (λ x. item_at (with_item slots put (Some n)) (handle_of (record_of new) x).slot) same ∙ ap (item_at (with_item slots put (Some n))) own_slot ∙ here ∙ ap Some (sym same))
        (λ (other : m ≢ n).
        let was = was_node old new n e adds m other is in
        let at = leads.node_at m was in
        ap (item_at (with_item slots put (Some n))) (slot_stays m was)
        ∙ elsewhere _ (λ k. let bad = sym at ∙ (ap (item_at slots) k ∙ free) in cc)
        ∙ at)
        (node_cases m n)

    slot_of : (k : ℕ) (m : Node) → item_at (with_item slots put (Some n)) k ≡ Some m → IsNodeOf new m × ((handle_of (record_of new) m).slot ≡ k)
    slot_of k m at =
        ⊎_elim
        (λ (same : k ≡ put).
        let one : n ≡ m = same_Some n m (sym here ∙ (ap (item_at (with_item slots put (Some n))) (sym same) ∙ at)) in
        subst (λ x. IsNodeOf new x × ((handle_of (record_of new) x).slot ≡ k)) one (adds.nodes.changed, own_slot ∙ sym same))
        (λ (other : k ≢ put).
        let p = leads.slot_of k m (sym (elsewhere k other) ∙ at) in
        (others_added old new n e adds m p.0, slot_stays m p.0 ∙ p.1))
        (cases_eq k put)

-- as the least free one is
pub leads_added : {R : Type 0} (old new : Store (Entry R)) (n : Node) (e : Entry R) (slots : List (Option Node)) → AddsNode old new n e → e.handle.slot ≡ first_free slots → LeadsTo old slots → LeadsTo new (with_item slots (first_free slots) (Some n))
leads_added old new n e slots adds slot leads = leads_put old new n e slots (first_free slots) (first_free-is_free slots) adds slot leads
