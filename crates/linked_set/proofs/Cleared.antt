-- What a set is once all its records are taken out.
use Rattle.key_extract.specs.Digests.{Marks}
use Rattle.std.proofs.Common.{◌≡◌, ℕ, ◌+◌, Bool, [], map, None, sym, ap, ◌∙◌, subst}
use Rattle.std.specs.List.{filter_map}
use Rattle.std.specs.declared.cmp.Ordering.{Ordering}
use Rattle.list_model.specs.Order.{EachPair}
use Rattle.node_store.specs.declared.Node.{Node}
use Rattle.node_store.specs.Store.{Store, IsNodeOf}
use Rattle.node_store.specs.Age.{nodes_of}
use Rattle.node_store.specs.ByNode as node
use Rattle.container_model.specs.declared.handle.Entry.{Entry}
use Rattle.container_model.specs.Change.{cleared}
use Rattle.index_set.specs.declared.parts.Parts.{Parts}
use Rattle.index_set.specs.Set.{store_of, keys_of, specs_of, contents, record_of, lists_of, IsSound, IsKeyed, IsUniqueExcept, IsOfSame}
use Rattle.index_set.specs.ByRow.{has_by_row, order_by_row, marks_by_row}
use Rattle.index_set.specs.declared.by_row.ByRow.{ByRow}
use Rattle.linked_set.specs.LeadsTo.{LeadsTo}
use Rattle.linked_set.specs.Linked.{entries_in, handles_in}
use Rattle.linked_set.specs.Records.{IsWhole}
use Rattle.linked_set.specs.Seen.{seen}
use Rattle.linked_set.proofs.Made.{listed_empty, no_handles}
use Rattle.linked_set.proofs.Seen.{state_with}

no_records : {R : Type 0} (s : Store (Entry R)) → nodes_of s ≡ [] → entries_in (node.contents s) ≡ []
unfolding node.contents
no_records s none = ap (filter_map (node.record_of s)) none

leads_nowhere : {R : Type 0} (s : Store (Entry R)) → ((n : Node) → ¬ IsNodeOf s n) → LeadsTo s []
leads_nowhere s none = record {
  node_at = λ n is. absurd (none n is);
  slot_of = λ k n at. cc;
}

module _ {E R : Type 0} (old new : Parts (Entry R) (ByRow E)) (same : IsOfSame old new) (lists : lists_of new ≡ map (λ _. []) (specs_of old)) (none : nodes_of (store_of new) ≡ []) where
  no_entries : entries_in (contents new) ≡ []
  no_entries = no_records (store_of new) none

  no_lists : handles_in (record_of new) (lists_of new) ≡ map (λ _. []) (specs_of old)
  no_lists = ap (handles_in (record_of new)) lists ∙ no_handles (record_of new) (specs_of old)

  pub seen_cleared : (max writes : ℕ) → seen new max (writes + 1) ≡ cleared (seen old max writes)
  seen_cleared max writes = λ i. state_with (same.columns i) max (writes + 1) (same.keys i).keys (same.specs i) (no_entries i) (no_lists i)

  pub IsWhole-cleared : (has_key : E → ℕ → Bool) (order : E → ℕ → R → R → Ordering) (marks : E → ℕ → R → Marks) →
      IsSound (has_by_row has_key) new → IsKeyed (order_by_row order) (marks_by_row marks) new → IsUniqueExcept (order_by_row order) new None → ((n : Node) → ¬ IsNodeOf (store_of new) n) → IsWhole has_key order marks new []
  IsWhole-cleared has_key order marks sound keyed unique empty = record {
    linked = record {
      sound = sound;
      keyed = keyed;
      unique = unique;
      apart = subst (EachPair _) (sym no_entries) tt;
      leads = leads_nowhere (store_of new) empty;
    };
    listed = listed_empty (order (keys_of new).keys) (entries_in (contents new)) (specs_of new) (specs_of old) (handles_in (record_of new) (lists_of new)) no_entries same.specs no_lists;
  }
