-- The nodes of the lists of a set, for the crates above.
use Rattle.std.proofs.Common.{◌≡◌, ℕ, ◌<◌, Bool, List, [], length, get_or, ◌∙◌, arith}
use Rattle.std.specs.List.{AllByRecursion}
use Rattle.std.proofs.lemmas.List.{length-map}
use Rattle.list_model.proofs.InOrder.{All-map}
use Rattle.list_model.proofs.Lists.{All-from_places, All-of_map, All-at}
use Rattle.node_store.specs.ByNode.{columns_in}
use Rattle.node_store.specs.declared.Node.{Node}
use Rattle.node_store.specs.Nodes.{Holds, IsDistinct}
use Rattle.node_store.specs.Store.{IsNodeOf}
use Rattle.node_store.proofs.Members.{each_held}
use Rattle.any_index.specs.declared.index.AnyIndex.{AnyIndex}
use Rattle.any_index.specs.Spelled as any
use Rattle.any_index.proofs.Laws.{node_held, list_distinct}
pub use Rattle.any_index.proofs.Laws.{Holds_at}
use Rattle.index_set.specs.declared.parts.Parts.{Parts}
use Rattle.index_set.specs.Set.{store_of, specs_of, lists_of, list_of, IsSound}
use Rattle.index_set.proofs.Reading.{some_spec}

module _ {R E : Type 0} {has_key : E → ℕ → Bool} (s : Parts R E) (sound : IsSound has_key s) where
  -- there is one list for each index
  pub one_list_each : length (lists_of s) ≡ length (specs_of s)
  one_list_each = length-map s.indices.items (any.list_of (columns_in s.store)) ∙ sound.placed.one_each

  -- what each sound index gives of its list
  each_list : (P : List Node → Type 0) → ((i : AnyIndex) → any.IsSound (columns_in s.store) i → P (any.list_of (columns_in s.store) i)) → AllByRecursion P (lists_of s)
  each_list P law =
      All-of_map (any.list_of (columns_in s.store)) P s.indices.items
      (All-from_places (λ i. P (any.list_of (columns_in s.store) i)) s.indices.items
      (λ k d lt. law (get_or s.indices.items k d) (sound.placed.each k some_spec d (omega (arith, lt, sound.placed.one_each))).sound))

  -- what holds of each list holds of that of one index
  at_index : (P : List Node → Type 0) → AllByRecursion P (lists_of s) → (j : ℕ) → j < length (specs_of s) → P (list_of s j)
  at_index P all j lt = All-at P (lists_of s) j [] (omega (arith, lt, one_list_each)) all

  -- the nodes are nodes of the store
  pub nodes_held : AllByRecursion (AllByRecursion (IsNodeOf (store_of s))) (lists_of s)
  nodes_held =
      each_list (AllByRecursion (IsNodeOf (store_of s)))
      (λ i h. let xs = any.list_of (columns_in s.store) i in All-map (Holds xs) (IsNodeOf (store_of s)) (λ m k. node_held s.store i m h k) xs (each_held xs))

  pub nodes_held_at : (j : ℕ) → j < length (specs_of s) → AllByRecursion (IsNodeOf (store_of s)) (list_of s j)
  nodes_held_at = at_index (AllByRecursion (IsNodeOf (store_of s))) nodes_held

  -- none stands twice in a list
  pub distinct : AllByRecursion IsDistinct (lists_of s)
  distinct = each_list IsDistinct (λ i h. list_distinct (columns_in s.store) i h)

  pub distinct_at : (j : ℕ) → j < length (specs_of s) → IsDistinct (list_of s j)
  distinct_at = at_index IsDistinct distinct
