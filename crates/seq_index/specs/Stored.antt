-- A chain in a store: what its calls ask for, read and leave.
use Rattle.std.specs.Prelude.{◌≡◌, ℕ, List, Option, None, take, drop}
use Rattle.node_store.specs.declared.Node.{Node}
use Rattle.node_store.specs.Column.{KeepsOthers}
use Rattle.node_store.specs.Nodes.{Holds, first_or, last_or}
use Rattle.node_store.specs.Store.{Store}
use Rattle.node_store.specs.ByNode.{column_of, contents}
use Rattle.seq_index.specs.declared.SeqIndex.{SeqIndex}
use Rattle.seq_index.specs.Spelled.{Spells, IsSound, spelled, col_of, HasRoom}

-- the last node before the place, and the first one from it on
pub record StandBeside (xs : List Node) (place : ℕ) (ends : Option Node × Option Node) : Type 0 where
  pub before : ends.0 ≡ last_or (take place xs) None
  pub after : ends.1 ≡ first_or (drop place xs) None

module _ {R : Type 0} where
  -- the nodes of the chain, in its order
  abbrev pub nodes_of : SeqIndex → Store R → List Node
  nodes_of i s = spelled (column_of s) i

  -- the chain's links are those of the store
  abbrev pub IsChainOf : SeqIndex → Store R → Type 0
  IsChainOf i s = IsSound (column_of s) i

  -- the node is one of the chain's
  pub record HasNode (i : SeqIndex) (s : Store R) (n : Node) : Type 0 where
    pub chain : IsChainOf i s
    pub held : Holds (nodes_of i s) n

  -- The chain has become one of these nodes. Its column is as before, as are the other columns and the records of the
  -- store.
  pub record BecomesChain (old new : SeqIndex) (before after : Store R) (xs : List Node) : Type 0 where
    pub list : Spells (column_of after) new xs
    pub col : col_of new ≡ col_of old
    pub others : KeepsOthers (column_of before) (column_of after) (col_of old)
    pub contents : contents after ≡ contents before

  -- the same, and where there was room for one more node there still is
  pub record ReordersChain (old new : SeqIndex) (before after : Store R) (xs : List Node) : Type 0 where
    pub chain : BecomesChain old new before after xs
    pub room : HasRoom old → HasRoom new
