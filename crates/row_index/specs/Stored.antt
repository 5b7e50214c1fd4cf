-- A row in a store: what its calls ask for, read and leave.
use Rattle.std.specs.Prelude.{◌≡◌, List}
use Rattle.node_store.specs.declared.Node.{Node}
use Rattle.node_store.specs.Column.{KeepsOthers}
use Rattle.node_store.specs.Nodes.{Holds}
use Rattle.node_store.specs.Store.{Store}
use Rattle.node_store.specs.ByNode.{column_of, contents}
use Rattle.row_index.specs.declared.RowIndex.{RowIndex}
use Rattle.row_index.specs.Spelled.{Spells, IsSound, spelled, col_of, HasRoom}

module _ {R : Type 0} where
  -- the nodes of the row, in its order
  abbrev pub nodes_of : RowIndex → Store R → List Node
  nodes_of i s = spelled (column_of s) i

  -- the nodes' places are those of the store
  abbrev pub IsRowOf : RowIndex → Store R → Type 0
  IsRowOf i s = IsSound (column_of s) i

  -- the node is one of the row's
  pub record HasNode (i : RowIndex) (s : Store R) (n : Node) : Type 0 where
    pub row : IsRowOf i s
    pub held : Holds (nodes_of i s) n

  -- The row has become one of these nodes. Its column is as before, as are the other columns and the records of the
  -- store.
  pub record BecomesRow (old new : RowIndex) (before after : Store R) (xs : List Node) : Type 0 where
    pub list : Spells (column_of after) new xs
    pub col : col_of new ≡ col_of old
    pub others : KeepsOthers (column_of before) (column_of after) (col_of old)
    pub contents : contents after ≡ contents before

  -- the same, and where there was room for one more node there still is
  pub record ReordersRow (old new : RowIndex) (before after : Store R) (xs : List Node) : Type 0 where
    pub row : BecomesRow old new before after xs
    pub room : HasRoom old → HasRoom new
