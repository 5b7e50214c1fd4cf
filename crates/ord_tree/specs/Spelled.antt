-- The list that a tree of links spells.
use Rattle.std.specs.Prelude.{◌≡◌, ◌+◌, ℕ, zero, suc, ◌^◌, ◌<◌, List, length, Option, Some, None}
use Rattle.node_store.specs.declared.Node.{Node}
use Rattle.node_store.specs.Column.{Column}
use Rattle.node_store.specs.Nodes.{IsDistinct}
use Rattle.ord_tree.specs.Tree.{Tree, Leaf, Fork, nodes, root, Hangs, IsBalanced, stored_height, left_of, right_of}
pub use Rattle.node_store.specs.Nodes.{Holds}
use Rattle.ord_tree.specs.declared.tree.OrdTree.{OrdTree}
use Rattle.ord_tree.specs.declared.tally.Tally.{Ghosts}

-- the tree below a node, at most this high
abbrev pub tree_below : Column → Option Node → ℕ → Tree
tree_below c o zero = Leaf
tree_below c None (suc k) = Leaf
tree_below c (Some n) (suc k) = Fork (tree_below c (left_of c n) k) n (tree_below c (right_of c n) k)

module _ {T : Type 0} {G : Ghosts T} where
  -- the tree whose links the column has
  unfoldable pub tree_of : (ℕ → Column) → OrdTree T G → Tree
  tree_of cs i = tree_below (cs i.col) i.root (stored_height (cs i.col) i.root)

  -- the list that the column spells
  abbrev pub spelled : (ℕ → Column) → OrdTree T G → List Node
  spelled cs i = nodes (tree_of cs i)

  -- the column that the index uses
  abbrev pub col_of : OrdTree T G → ℕ
  col_of i = i.col

  -- the number of the index, by which keys are asked for
  abbrev pub index_of : OrdTree T G → ℕ
  index_of i = i.index

  -- one node more can be counted
  abbrev pub HasRoom : OrdTree T G → Type 0
  HasRoom i = i.len + 1 < 2 ^ 64

  -- the index is this tree
  pub record SpellsTree (cs : ℕ → Column) (i : OrdTree T G) (t : Tree) : Type 0 where
    pub hangs : Hangs G.of (cs i.col) None t
    pub root_is : i.root ≡ root t
    pub balanced : IsBalanced t
    pub distinct : IsDistinct (nodes t)
    pub len : i.len ≡ length (nodes t)
    pub fits : i.len < 2 ^ 64

  -- the index spells this list
  pub record Spells (cs : ℕ → Column) (i : OrdTree T G) (xs : List Node) : Type 0 where
    pub tree : Tree
    pub is : SpellsTree cs i tree
    pub nodes_are : nodes tree ≡ xs

  -- the index is a balanced tree
  abbrev pub IsSound : (ℕ → Column) → OrdTree T G → Type 0
  IsSound cs i = Spells cs i (spelled cs i)
