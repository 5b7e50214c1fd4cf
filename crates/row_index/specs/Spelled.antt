-- The list that a row spells.
use Rattle.std.specs.Prelude.{◌≡◌, ℕ, false, ◌+◌, ◌<◌, List, [], ◌∷◌, take, Option, Some}
use Rattle.std.specs.Option.{option_map}
use Rattle.std.specs.Vec.{vec_len, vec_capacity}
use Rattle.node_store.specs.declared.Node.{Node}
use Rattle.node_store.specs.Column.{Column}
pub use Rattle.node_store.specs.Column.{KeepsOthers}
pub use Rattle.node_store.specs.Nodes.{Holds}
use Rattle.node_store.specs.Nodes.{IsDistinct, AllNodes}
use Rattle.row_index.specs.declared.RowIndex.{RowIndex}
use Rattle.row_index.specs.Marked.{is_marked}

-- the place that the column says of a node
abbrev pub tag_at : Column → Node → Option ℕ
tag_at c n = option_map (λ l. l.tag) (c n)

-- the column has each node, with its place, of which the first is this one
abbrev pub AreNumbered : Column → ℕ → List Node → Type 0
AreNumbered c place [] = Unit {0}
AreNumbered c place (x ∷ xs) = (tag_at c x ≡ Some place) × AreNumbered c (place + 1) xs

-- the index has these nodes in its vector, and each node's place in its column
pub record Spells (cs : ℕ → Column) (i : RowIndex) (xs : List Node) : Type 0 where
  pub nodes : i.nodes.items ≡ xs
  pub places : AreNumbered (cs i.col) 0 xs
  pub distinct : IsDistinct xs

-- the column that the index uses
abbrev pub col_of : RowIndex → ℕ
col_of i = i.col

-- an insertion needs no more memory
abbrev pub HasRoom : RowIndex → Type 0
HasRoom i = vec_len i.nodes < vec_capacity i.nodes

-- the list that the column spells
unfoldable pub spelled : (ℕ → Column) → RowIndex → List Node
spelled cs i = i.nodes.items

-- the vector and the column agree
abbrev pub IsSound : (ℕ → Column) → RowIndex → Type 0
IsSound cs i = Spells cs i (spelled cs i)

-- distinct nodes of the column, of which those before a place have theirs
pub record IsNumberedTo (c : Column) (place : ℕ) (xs : List Node) : Type 0 where
  pub nodes : AllNodes c xs
  pub distinct : IsDistinct xs
  pub front : AreNumbered c 0 (take place xs)

-- each of the nodes that is not marked has its place, of which the first is this one
abbrev pub KeepPlaces : Column → ℕ → List Node → Type 0
KeepPlaces c place [] = Unit {0}
KeepPlaces c place (x ∷ xs) = (is_marked c x ≡ false → tag_at c x ≡ Some place) × KeepPlaces c (place + 1) xs

-- the vector has distinct nodes of the column with their places, but for those that are marked, none of them before a place
pub record HasMarks (cs : ℕ → Column) (i : RowIndex) (low : ℕ) : Type 0 where
  pub numbered : IsNumberedTo (cs i.col) low i.nodes.items
  pub places : KeepPlaces (cs i.col) 0 i.nodes.items
