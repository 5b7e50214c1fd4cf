-- What a walk along an index has left.
use Rattle.std.specs.Prelude.{◌≡◌, ℕ, Bool, false, not, List, drop, take, slice_get, Option, Some, option_map, IsTrue, ◌≤◌}
use Rattle.std.specs.List.{filter_map}
use Rattle.std.specs.Option.{option_map_or}
use Rattle.list_model.specs.Walk.{place_of}
use Rattle.container_model.specs.declared.handle.Entry.{Entry}
use Rattle.container_model.specs.declared.handle.Handle.{Handle}
use Rattle.container_model.specs.State.{State, is_hashed_kind, list_at, row_of}
use Rattle.container_model.specs.Find.{place_or_end}
use Rattle.node_store.specs.declared.Node.{Node}
use Rattle.node_store.specs.ByNode.{same_node}
use Rattle.index_set.specs.declared.parts.Parts.{Parts}
use Rattle.index_set.specs.Set.{list_of, kind_at, IsSound}
use Rattle.index_set.specs.ByRow.{has_by_row}
use Rattle.index_set.specs.declared.by_row.ByRow.{ByRow}

-- the records of these handles, with the handles
abbrev pub with_rows : {E R : Type 0} → State E R → List Handle → List (Handle × R)
with_rows s handles = filter_map (λ h. option_map (λ r. (h, r)) (row_of s.entries h)) handles

-- the records of an index from a position on, with the handles, and those before it
abbrev pub rows_from : {E R : Type 0} → State E R → ℕ → Option Handle → List (Handle × R)
rows_from s index position = with_rows s (drop (place_or_end s index position) (list_at s.lists index))

abbrev pub rows_to : {E R : Type 0} → State E R → ℕ → Option Handle → List (Handle × R)
rows_to s index position = with_rows s (take (place_or_end s index position) (list_at s.lists index))

-- whether the node is this one, if there is one
abbrev pub is_one : Option Node → Node → Bool
is_one o n = option_map_or (λ m. same_node m n) o false

-- the nodes from the next one up to the one that ends the walk
abbrev pub nodes_left : (next end : Option Node) → List Node → List Node
nodes_left next end nodes =
    let from = drop (place_of (is_one next) nodes) nodes in
    take (place_of (is_one end) from) from

-- the nodes' handles and records
abbrev pub rows_of_nodes : {R : Type 0} → (Node → Option (Entry R)) → List Node → List (Handle × R)
rows_of_nodes records nodes = filter_map (λ n. option_map (λ e. (e.handle, e.row)) (records n)) nodes

-- a position of the list, a node or the end, and one that stands there or later, unless the first is the end
pub record IsRun (nodes : List Node) (next end : Option Node) : Type 0 where
  pub from : ℕ
  pub to : ℕ
  pub begins : next ≡ slice_get nodes from
  pub ends : end ≡ slice_get nodes to
  pub upward : (n : Node) → next ≡ Some n → from ≤ to

-- what holds of every walk
pub record IsWalk {E R : Type 0} (has_key : E → ℕ → Bool) (set : Parts (Entry R) (ByRow E)) (index : ℕ) (next end : Option Node) : Type 0 where
  pub sound : IsSound (has_by_row has_key) set
  pub kind : IsTrue (not (is_hashed_kind (kind_at set index)))
  pub run : IsRun (list_of set index) next end
