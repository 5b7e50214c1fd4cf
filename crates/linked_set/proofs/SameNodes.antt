-- Nodes that are those of an index in another order.
use Rattle.key_extract.specs.Digests.{Marks}
use Rattle.std.proofs.Common.{◌≡◌, ℕ, ◌<◌, Bool, true, List, length, map, Option, sym, subst}
use Rattle.std.specs.Prelude.{IsPermutation}
use Rattle.std.specs.List.{AllByRecursion}
use Rattle.std.specs.declared.cmp.Ordering.{Ordering}
use Rattle.std.proofs.lemmas.List.Sorted.{IsPermutation-sym, IsPermutation-trans}
use Rattle.list_model.proofs.InOrder.{All-map}
use Rattle.container_model.specs.declared.handle.Handle.{Handle}
use Rattle.container_model.specs.declared.handle.Entry.{Entry}
use Rattle.container_model.specs.State.{list_at}
use Rattle.container_model.specs.Sequence.{has_each_once}
use Rattle.container_model.proofs.Moved.{each_once_is}
use Rattle.node_store.specs.declared.Node.{Node}
use Rattle.node_store.specs.Store.{IsNodeOf}
use Rattle.slot_table.specs.Slots.{item_at}
use Rattle.index_set.specs.declared.parts.Parts.{Parts}
use Rattle.index_set.specs.Set.{store_of, specs_of, contents, record_of, list_of, lists_of}
use Rattle.index_set.proofs.Members.{nodes_held_at}
use Rattle.index_set.specs.declared.by_row.ByRow.{ByRow}
use Rattle.linked_set.specs.Linked.{handle_of, entries_in, handles_in}
use Rattle.linked_set.specs.Records.{IsWhole}
use Rattle.linked_set.proofs.Ordered.{members_here}
use Rattle.linked_set.proofs.Reading.{list_seen}
use Rattle.linked_set.proofs.Rearranged.{IsPermutation-unmap}

-- nodes whose handles are each record's once are those of each index
module _ {E R : Type 0} {has_key : E → ℕ → Bool} {order : E → ℕ → R → R → Ordering} {marks : E → ℕ → R → Marks} (set : Parts (Entry R) (ByRow E)) (slots : List (Option Node)) (was : IsWhole has_key order marks set slots)
    (index : ℕ) (within : index < length (specs_of set)) where
  pub same_nodes : (nodes : List Node) (handles : List Handle) → AllByRecursion (IsNodeOf (store_of set)) nodes → map (handle_of (record_of set)) nodes ≡ handles → has_each_once (entries_in (contents set)) handles ≡ true → IsPermutation (list_of set index) nodes
  same_nodes nodes handles are named once =
      let f = handle_of (record_of set) in
      let own : List Handle = map (λ e. e.handle) (entries_in (contents set)) in
      let back = λ (n : Node) (is : IsNodeOf (store_of set) n). was.linked.leads.node_at n is in
      IsPermutation-unmap f (λ h. item_at slots h.slot) (list_of set index) nodes (All-map _ _ back (list_of set index) (nodes_held_at set was.linked.sound index within)) (All-map _ _ back nodes are)
      (subst (λ l. IsPermutation l (map f nodes)) (sym (list_seen set slots was.linked index))
      (subst (IsPermutation (list_at (handles_in (record_of set) (lists_of set)) index)) (sym named)
      (IsPermutation-trans _ own _ (IsPermutation-sym own _ (members_here set slots was index within)) (each_once_is (entries_in (contents set)) handles was.linked.apart once))))
