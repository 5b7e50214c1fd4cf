-- The laws of what an index spells, for the crates above.
use Rattle.std.proofs.Common.{◌≡◌, ℕ, ◌+◌, List, [], ◌∷◌, length, Some, None, ap, sym, subst, slice_get}
use Rattle.node_store.specs.declared.Node.{Node}
use Rattle.node_store.specs.Column.{Column, IsNode}
use Rattle.node_store.specs.Nodes.{AllNodes, Lacks, IsDistinct}
use Rattle.node_store.specs.Store.{Store, IsNodeOf}
use Rattle.node_store.specs.ByNode.{same_node, column_of, AddsNode, RemovesNode}
use Rattle.node_store.proofs.ByNode.{lacks_added, same_added, same_removed, node_of_column}
use Rattle.node_store.proofs.NodeLists.{IsSameAt-kept}
use Rattle.node_store.proofs.Members.{each_held}
use Rattle.node_store.proofs.Members.{Holds_at}
use Rattle.list_model.specs.Walk.{place_of, next, prev, last}
use Rattle.list_model.proofs.Neighbours.{some_prev}
use Rattle.seq_index.specs.declared.SeqIndex.{SeqIndex}
use Rattle.seq_index.specs.Links.{Runs}
use Rattle.seq_index.specs.Spelled.{Spells, IsSound, spelled, col_of, follow, Holds}
use Rattle.seq_index.proofs.Runs.{Runs-node, Runs-nodes}
pub use Rattle.seq_index.proofs.ChainLists.{spelled_is, Spells_same}

pub Spells_distinct : (cs : ℕ → Column) (i : SeqIndex) (xs : List Node) → Spells cs i xs → IsDistinct xs
Spells_distinct cs i xs h = h.distinct

-- an index stays as it is where its column stays
pub spelled_kept : (cs ds : ℕ → Column) (i : SeqIndex) → ds (col_of i) ≡ cs (col_of i) → spelled ds i ≡ spelled cs i
unfolding spelled
spelled_kept cs ds i e = ap (λ (c : Column). follow c i.first i.len) e

pub Spells_kept : (cs ds : ℕ → Column) (i : SeqIndex) (xs : List Node) → ds (col_of i) ≡ cs (col_of i) → Spells cs i xs → Spells ds i xs
Spells_kept cs ds i xs e h = Spells_same cs ds i xs (IsSameAt-kept (cs (col_of i)) (ds (col_of i)) xs e) h

-- an index that spells a list is sound
pub IsSound_from : (cs : ℕ → Column) (i : SeqIndex) (xs : List Node) → Spells cs i xs → IsSound cs i
IsSound_from cs i xs h = subst (λ (z : List Node). Spells cs i z) (sym (spelled_is cs i xs h)) h

pub IsSound_kept : (cs ds : ℕ → Column) (i : SeqIndex) → ds (col_of i) ≡ cs (col_of i) → IsSound cs i → IsSound ds i
IsSound_kept cs ds i e h = IsSound_from ds i (spelled cs i) (Spells_kept cs ds i (spelled cs i) e h)

-- ---- nodes that calls answer, and nodes that they take out

-- the first node stands in the list
pub Holds_first : (xs : List Node) (n : Node) → slice_get xs 0 ≡ Some n → Holds xs n
Holds_first xs n e = Holds_at xs 0 n e

-- so does the last one
pub Holds_last : (xs : List Node) (n : Node) → last xs ≡ Some n → Holds xs n
Holds_last [] n e = cc
Holds_last (x ∷ xs) n e = Holds_at (x ∷ xs) (length xs) n e

-- and the node after another, and the one before it
pub Holds_next : (xs : List Node) (m n : Node) → next (same_node m) xs ≡ Some n → Holds xs n
Holds_next xs m n e = Holds_at xs (place_of (same_node m) xs + 1) n e

pub Holds_prev : (xs : List Node) (m n : Node) → prev (same_node m) xs ≡ Some n → Holds xs n
Holds_prev xs m n e = some_prev (Holds xs) (same_node m) xs (each_held xs) n e

-- ---- when nodes come and go in the store

-- the store has each node of the list
pub Spells_nodes : (cs : ℕ → Column) (i : SeqIndex) (xs : List Node) → Spells cs i xs → AllNodes (cs (col_of i)) xs
Spells_nodes cs i xs h = Runs-nodes (cs (col_of i)) None xs None h.runs

module _ {R : Type 0} where
  -- a node of the list is one of the column
  pub node_linked : (s : Store R) (i : SeqIndex) (n : Node) → IsSound (column_of s) i → Holds (spelled (column_of s) i) n → IsNode (column_of s (col_of i)) n
  node_linked s i n h k =
      Runs-node (column_of s (col_of i)) None k.before n k.after None (subst (λ (z : List Node). Runs (column_of s (col_of i)) None z None) k.is h.runs)

  -- and of the store
  pub node_held : (s : Store R) (i : SeqIndex) (n : Node) → IsSound (column_of s) i → Holds (spelled (column_of s) i) n → IsNodeOf s n
  node_held s i n h k = node_of_column s (col_of i) n (node_linked s i n h k)

  pub Spells_added : (old new : Store R) (n : Node) (value : R) (i : SeqIndex) (xs : List Node) → AddsNode old new n value → Spells (column_of old) i xs → Spells (column_of new) i xs
  Spells_added old new n value i xs a h =
      Spells_same (column_of old) (column_of new) i xs (same_added old new n value (col_of i) xs a (Spells_nodes (column_of old) i xs h)) h

  -- the new node is not in the list
  pub Lacks_added : (old new : Store R) (n : Node) (value : R) (i : SeqIndex) (xs : List Node) → AddsNode old new n value → Spells (column_of old) i xs → Lacks xs n
  Lacks_added old new n value i xs a h = lacks_added old new n value (col_of i) xs a (Spells_nodes (column_of old) i xs h)

  pub Spells_removed : (old new : Store R) (n : Node) (i : SeqIndex) (xs : List Node) → RemovesNode old new n → Lacks xs n → Spells (column_of old) i xs → Spells (column_of new) i xs
  Spells_removed old new n i xs r lacks h = Spells_same (column_of old) (column_of new) i xs (same_removed old new n (col_of i) xs r lacks) h

  -- the same for an index that is sound, with the list that it spells
  pub spelled_added : (old new : Store R) (n : Node) (value : R) (i : SeqIndex) → AddsNode old new n value → IsSound (column_of old) i → spelled (column_of new) i ≡ spelled (column_of old) i
  spelled_added old new n value i a h = spelled_is (column_of new) i (spelled (column_of old) i) (Spells_added old new n value i (spelled (column_of old) i) a h)

  pub IsSound_added : (old new : Store R) (n : Node) (value : R) (i : SeqIndex) → AddsNode old new n value → IsSound (column_of old) i → IsSound (column_of new) i
  IsSound_added old new n value i a h = IsSound_from (column_of new) i (spelled (column_of old) i) (Spells_added old new n value i (spelled (column_of old) i) a h)

  pub Lacks_spelled_added : (old new : Store R) (n : Node) (value : R) (i : SeqIndex) → AddsNode old new n value → IsSound (column_of old) i → Lacks (spelled (column_of new) i) n
  Lacks_spelled_added old new n value i a h = subst (λ (z : List Node). Lacks z n) (sym (spelled_added old new n value i a h)) (Lacks_added old new n value i (spelled (column_of old) i) a h)

  pub spelled_removed : (old new : Store R) (n : Node) (i : SeqIndex) → RemovesNode old new n → Lacks (spelled (column_of old) i) n → IsSound (column_of old) i → spelled (column_of new) i ≡ spelled (column_of old) i
  spelled_removed old new n i r lacks h = spelled_is (column_of new) i (spelled (column_of old) i) (Spells_removed old new n i (spelled (column_of old) i) r lacks h)

  pub IsSound_removed : (old new : Store R) (n : Node) (i : SeqIndex) → RemovesNode old new n → Lacks (spelled (column_of old) i) n → IsSound (column_of old) i → IsSound (column_of new) i
  IsSound_removed old new n i r lacks h = IsSound_from (column_of new) i (spelled (column_of old) i) (Spells_removed old new n i (spelled (column_of old) i) r lacks h)
