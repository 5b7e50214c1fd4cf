-- Nodes of a key, and marks in a row.
use Rattle.std.specs.Prelude.{ℕ, Bool, ◌&&◌, List, filter}
use Rattle.std.specs.List.{list_any}
use Rattle.std.specs.Ordering.{is_eq}
use Rattle.std.specs.declared.cmp.Ordering.{Ordering}
use Rattle.node_store.specs.declared.Node.{Node}
use Rattle.node_store.specs.Column.{Column}
use Rattle.node_store.specs.Store.{Store}
use Rattle.node_store.specs.ByNode.{Columns, columns_in, same_node}
use Rattle.key_extract.specs.declared.extract.Extract.{Ghosts}
use Rattle.hash_index.specs.Spelled as hash
use Rattle.row_index.specs.Spelled as row
pub use Rattle.row_index.specs.Marked.{is_marked, lowest_mark}
use Rattle.any_index.specs.declared.index.AnyIndex.{AnyIndex}
use Rattle.any_index.specs.declared.index.AnyIndex.TheVariants.{Sequenced, Random, Ordered, Ranked, Hashed}
use Rattle.any_index.specs.Spelled.{list_of}
use Rattle.any_index.specs.Stored.{side_in}

-- whether the list has the node, and its record has the key
abbrev pub is_match : (side : Node → Ordering) → List Node → Node → Bool
is_match side xs n = list_any (same_node n) xs && is_eq (side n)

-- the nodes of the index in the order of a walk, which in a hashed one goes along the chains
abbrev pub walk_of : Columns → AnyIndex → List Node
walk_of cs (Sequenced i) = list_of cs (Sequenced i)
walk_of cs (Random i) = list_of cs (Random i)
walk_of cs (Ordered i) = list_of cs (Ordered i)
walk_of cs (Ranked i) = list_of cs (Ranked i)
walk_of cs (Hashed i) = hash.spelled cs.links i

-- those of them whose records have the key
abbrev pub matches_in : {E R P : Type 0} → Ghosts E R P → AnyIndex → Store R → E → P → List Node
matches_in X i s keys probe = filter (λ n. is_eq (side_in X i s keys probe n)) (walk_of (columns_in s) i)

-- the index is a row whose nodes may be marked, none of them before a place
abbrev pub HasMarks : (ℕ → Column) → AnyIndex → ℕ → Type 0
HasMarks cs (Sequenced i) low = ⊥
HasMarks cs (Random i) low = row.HasMarks cs i low
HasMarks cs (Ordered i) low = ⊥
HasMarks cs (Ranked i) low = ⊥
HasMarks cs (Hashed i) low = ⊥
