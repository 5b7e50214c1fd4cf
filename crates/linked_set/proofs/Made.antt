-- A set without records.
use Rattle.key_extract.specs.Digests.{Marks}
use Rattle.std.proofs.Common.{◌≡◌, ℕ, Bool, List, [], ◌∷◌, map, Option, None, refl, sym, ap, ◌∙◌, subst}
use Rattle.std.specs.declared.cmp.Ordering.{Ordering}
use Rattle.list_model.specs.Order.{EachPair}
use Rattle.node_store.specs.declared.Node.{Node}
use Rattle.node_store.specs.Store.{Store, empty_store, width_of}
use Rattle.node_store.specs.ByNode as node
use Rattle.container_model.specs.declared.handle.Entry.{Entry}
use Rattle.container_model.specs.declared.handle.Spec.{Spec}
use Rattle.container_model.specs.State.{AreIndices, empty_with_most}
use Rattle.container_model.proofs.Inserted.{indices_empty}
use Rattle.index_set.specs.declared.parts.Parts.{Parts}
use Rattle.index_set.specs.Lists.{AreUniqueFrom}
use Rattle.index_set.proofs.Keys.{unique_empty}
use Rattle.index_set.specs.Set.{store_of, keys_of, specs_of, columns_of, contents, record_of, lists_of, IsSound, IsKeyed}
use Rattle.index_set.specs.ByRow.{has_by_row, order_by_row, marks_by_row}
use Rattle.index_set.specs.declared.by_row.ByRow.{ByRow}
use Rattle.linked_set.specs.LeadsTo.{LeadsTo}
use Rattle.linked_set.specs.Linked.{entries_in, handles_in}
use Rattle.linked_set.specs.Records.{IsWhole}
use Rattle.linked_set.specs.Seen.{seen}
use Rattle.linked_set.proofs.Contents.{entries-empty}
use Rattle.linked_set.proofs.LeadsTo.{leads-empty}
use Rattle.linked_set.proofs.Seen.{state_with}

pub no_handles : {R : Type 0} (records : Node → Option (Entry R)) (specs : List Spec) → handles_in records (map (λ _. []) specs) ≡ map (λ _. []) specs
no_handles records [] = refl
no_handles records (spec ∷ specs) = ap (λ ls. [] ∷ ls) (no_handles records specs)

-- no records stand in lists without members as those of indices do
pub listed_empty : {R : Type 0} (order : ℕ → R → R → Ordering) (entries : List (Entry R)) (specs was : List Spec) (lists : _) → entries ≡ [] → specs ≡ was → lists ≡ map (λ _. []) was → AreIndices order entries 0 specs lists
listed_empty order entries specs was lists none same empty =
    subst (λ es. AreIndices order es 0 specs lists) (sym none)
    (subst (λ ss. AreIndices order [] 0 ss lists) (sym same) (subst (AreIndices order [] 0 was) (sym empty) (indices_empty order 0 was)))

module _ {E R : Type 0} (set : Parts (Entry R) (ByRow E)) (most : ℕ) (keys : E) (specs : List Spec)
    (lists : lists_of set ≡ map (λ _. []) specs) (none : store_of set ≡ empty_store (width_of (store_of set))) (same_keys : (keys_of set).keys ≡ keys) (same_specs : specs_of set ≡ specs) (same_most : columns_of set ≡ most) where
  no_entries : entries_in (contents set) ≡ []
  no_entries = ap (λ (s : Store (Entry R)). entries_in (node.contents s)) none ∙ entries-empty (width_of (store_of set))

  no_lists : handles_in (record_of set) (lists_of set) ≡ map (λ _. []) specs
  no_lists = ap (handles_in (record_of set)) lists ∙ no_handles (record_of set) specs

  pub seen_made : (max writes : ℕ) → seen set max writes ≡ empty_with_most most keys specs max writes
  seen_made max writes = λ i. state_with (same_most i) max writes (same_keys i) (same_specs i) (no_entries i) (no_lists i)

  pub IsWhole-made : (has_key : E → ℕ → Bool) (order : E → ℕ → R → R → Ordering) (marks : E → ℕ → R → Marks) → IsSound (has_by_row has_key) set → IsKeyed (order_by_row order) (marks_by_row marks) set → IsWhole has_key order marks set []
  IsWhole-made has_key order marks sound keyed = record {
    linked = record {
      sound = sound;
      keyed = keyed;
      unique = subst (AreUniqueFrom (λ index a b. order (keys_of set).keys index a.row b.row) (record_of set) None 0 (specs_of set)) (sym (lists ∙ ap (map (λ _. [])) (sym same_specs)))
          (unique_empty (λ index a b. order (keys_of set).keys index a.row b.row) (record_of set) 0 (specs_of set));
      apart = subst (EachPair _) (sym no_entries) tt;
      leads = subst (λ (s : Store (Entry R)). LeadsTo s []) (sym none) (leads-empty R (width_of (store_of set)));
    };
    listed = listed_empty (order (keys_of set).keys) (entries_in (contents set)) (specs_of set) specs (handles_in (record_of set) (lists_of set)) no_entries same_specs no_lists;
  }
