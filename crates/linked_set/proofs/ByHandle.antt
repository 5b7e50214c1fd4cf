-- Nodes by the handles of their records.
use Rattle.std.proofs.Common.{◌≡◌, ◌≢◌, ℕ, ◌+◌, ◌==◌, Bool, true, false, List, [], ◌∷◌, ◌++◌, map, Option, refl, sym, ap, ◌∙◌, subst, ⊎_elim, arith}
use Rattle.std.specs.Prelude.{count_by, is_some}
use Rattle.std.specs.List.{AllByRecursion}
use Rattle.std.specs.declared.cmp.Ordering.{Ordering}
use Rattle.std.proofs.lemmas.Bool.{false_from_ne_true}
use Rattle.std.proofs.lemmas.Option.{same_Some}
use Rattle.list_model.specs.Order.{EachPair}
use Rattle.list_model.proofs.Kept.{All-split}
use Rattle.list_model.proofs.Permuted.{count_by-permutation, split_at}
use Rattle.node_store.specs.declared.Node.{Node}
use Rattle.node_store.specs.Nodes.{Holds}
use Rattle.node_store.specs.Store.{Store, IsNodeOf}
use Rattle.node_store.specs.ByNode.{record_of, same_node}
use Rattle.node_store.proofs.ByNode.{node_cases, same_node-refl, same_node-false}
use Rattle.container_model.specs.declared.handle.Handle.{Handle}
use Rattle.container_model.specs.declared.handle.Entry.{Entry}
use Rattle.container_model.specs.declared.handle.Spec.{Spec}
use Rattle.container_model.specs.State.{AreIndices, is_handle, row_of}
use Rattle.container_model.proofs.Found.{count_live, is_handle_itself, is_handle_same}
use Rattle.index_set.specs.Indices.{HoldIt}
use Rattle.slot_table.specs.Slots.{item_at}
use Rattle.linked_set.specs.LeadsTo.{LeadsTo}
use Rattle.linked_set.specs.Linked.{handle_of, handles_in}
use Rattle.linked_set.proofs.Sides.{count_mapped}

module _ {R : Type 0} (s : Store (Entry R)) (slots : List (Option Node)) (leads : LeadsTo s slots) where
  -- nodes of one handle are one
  pub one_node : (n m : Node) → IsNodeOf s n → IsNodeOf s m → handle_of (record_of s) n ≡ handle_of (record_of s) m → n ≡ m
  one_node n m is there same = same_Some n m (sym (leads.node_at n is) ∙ (ap (λ (g : Handle). item_at slots g.slot) same ∙ leads.node_at m there))

  -- the tests of nodes and of their handles say the same
  pub same_by_handle : (n m : Node) → IsNodeOf s n → IsNodeOf s m → same_node n m ≡ is_handle (handle_of (record_of s) n) (handle_of (record_of s) m)
  same_by_handle n m is there =
      let h : Handle = handle_of (record_of s) n in
      ⊎_elim
      (λ (e : n ≡ m). ap (same_node n) (sym e) ∙ (same_node-refl n ∙ sym (ap (λ z. is_handle h (handle_of (record_of s) z)) (sym e) ∙ is_handle_itself h)))
      (λ (ne : n ≢ m). same_node-false n m ne ∙ sym (false_from_ne_true _ (λ one. ne (one_node n m is there (is_handle_same _ _ one)))))
      (node_cases n m)

  module _ (n : Node) (is : IsNodeOf s n) where
    all_alike : (h : Handle) (xs : List Node) → AllByRecursion (λ m. is_handle h (handle_of (record_of s) m) ≡ is_handle h (handle_of (record_of s) m)) xs
    all_alike h [] = tt
    all_alike h (x ∷ xs) = (refl, all_alike h xs)

    -- a list that has its handle once has it
    held_by_one : (xs : List Node) → AllByRecursion (IsNodeOf s) xs → count_by (is_handle (handle_of (record_of s) n)) (map (handle_of (record_of s)) xs) ≡ 1 → Holds xs n
    held_by_one xs are once =
        let h : Handle = handle_of (record_of s) n in
        let test : Node → Bool = λ m. is_handle h (handle_of (record_of s) m) in
        let at = split_at test xs (omega (arith, once, count_mapped (handle_of (record_of s)) test (is_handle h) xs (all_alike h xs))) in
        let there = (All-split (IsNodeOf s) at.front (at.member ∷ at.back) (subst (AllByRecursion (IsNodeOf s)) at.whole are)).1.0 in
        record { before = at.front; after = at.back; is = at.whole ∙ ap (λ m. at.front ++ m ∷ at.back) (sym (one_node n at.member is there (is_handle_same _ _ at.here))) }

    -- so have all lists of indices
    pub held_by_lists : (order : ℕ → R → R → Ordering) (entries : List (Entry R)) → EachPair (λ a b. (b.handle.slot == a.handle.slot) ≡ false) entries → is_some (row_of entries (handle_of (record_of s) n)) ≡ true →
        (index : ℕ) (specs : List Spec) (lists : List (List Node)) → AllByRecursion (AllByRecursion (IsNodeOf s)) lists → AreIndices order entries index specs (handles_in (record_of s) lists) → HoldIt lists n
    held_by_lists order entries apart live index specs [] are kept = tt
    held_by_lists order entries apart live index [] (list ∷ lists) are kept = absurd kept
    held_by_lists order entries apart live index (spec ∷ specs) (list ∷ lists) are kept = (
      held_by_one list are.0 (count_by-permutation (is_handle (handle_of (record_of s) n)) _ _ kept.0.members ∙ count_live entries (handle_of (record_of s) n) apart live),
      held_by_lists order entries apart live (index + 1) specs lists are.1 kept.1,
    )
