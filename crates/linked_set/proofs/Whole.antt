-- What holds of records under their indices.
use Rattle.key_extract.specs.Digests.{Marks}
use Rattle.std.proofs.Common.{◌≡◌, ℕ, ◌<◌, Bool, List, length, Option, Some, true, sym, ap, ◌∙◌}
use Rattle.std.specs.Prelude.{is_some}
use Rattle.std.specs.declared.cmp.Ordering.{Ordering}
use Rattle.std.proofs.lemmas.List.{length-map}
use Rattle.node_store.specs.declared.Node.{Node}
use Rattle.container_model.specs.declared.handle.Entry.{Entry}
use Rattle.index_set.specs.declared.parts.Parts.{Parts}
use Rattle.index_set.specs.Set.{store_of, keys_of, specs_of, contents, record_of, list_of, lists_of}
use Rattle.index_set.proofs.Members.{nodes_held}
use Rattle.index_set.proofs.Reading.{some_spec}
use Rattle.index_set.specs.declared.by_row.ByRow.{ByRow}
use Rattle.index_set.specs.Set.{AreHeld}
use Rattle.linked_set.specs.Linked.{handle_of, entries_in, handles_in}
use Rattle.linked_set.specs.Records.{IsWhole}
use Rattle.linked_set.proofs.ByHandle.{held_by_lists}
use Rattle.linked_set.proofs.Contents.{known}
use Rattle.linked_set.proofs.Indices.{as_many_each}
use Rattle.linked_set.proofs.Reading.{list_seen}
use Rattle.linked_set.proofs.Sides.{row_known}

module _ {E R : Type 0} {has_key : E → ℕ → Bool} {order : E → ℕ → R → R → Ordering} {marks : E → ℕ → R → Marks} (set : Parts (Entry R) (ByRow E)) (slots : List (Option Node)) (whole : IsWhole has_key order marks set slots) where
  -- each index has each node
  pub all_held : AreHeld set
  all_held = record {
    each = λ n is. let k = known (store_of set) n whole.linked.sound.nodes whole.linked.apart is in
        held_by_lists (store_of set) slots whole.linked.leads n is (order (keys_of set).keys) (entries_in (contents set)) whole.linked.apart (ap is_some (row_known (record_of set) (entries_in (contents set)) n k)) 0 (specs_of set) (lists_of set)
        (nodes_held set whole.linked.sound) whole.listed;
  }

  -- an index has as many nodes as there are records
  pub as_many : (index : ℕ) → index < length (specs_of set) → length (list_of set index) ≡ length (entries_in (contents set))
  as_many index within =
      sym (length-map (list_of set index) (handle_of (record_of set)))
      ∙ (ap length (list_seen set slots whole.linked index)
      ∙ as_many_each (order (keys_of set).keys) (entries_in (contents set)) index (specs_of set) (handles_in (record_of set) (lists_of set)) some_spec whole.listed within)

-- a handle whose record has a row names one
pub is_there : {R : Type 0} {o : Option R} {row : R} → o ≡ Some row → is_some o ≡ true
is_there e = ap is_some e
