-- An index in a store: what its calls ask for, read and keep.
use Rattle.std.specs.Prelude.{◌≡◌, ◌≢◌, ◌≤◌, ℕ, Bool, length, List, Option, Some, IsTrue}
use Rattle.std.specs.Ordering.{is_le}
use Rattle.std.specs.declared.cmp.Ordering.{Ordering}
use Rattle.container_model.specs.declared.handle.Kind.{Kind}
use Rattle.container_model.specs.declared.handle.Kind.TheVariants.{Random}
use Rattle.container_model.specs.State.{has_key_kind}
use Rattle.node_store.specs.declared.Node.{Node}
use Rattle.node_store.specs.Column.{IsNode}
use Rattle.node_store.specs.Nodes.{Lacks}
use Rattle.node_store.specs.Store.{Store}
use Rattle.node_store.specs.ByNode.{column_of, columns_in, record_of, contents}
use Rattle.key_extract.specs.declared.extract.Extract.{Ghosts}
use Rattle.any_index.specs.Last.{last_that}
use Rattle.any_index.specs.Side.{side_of, order_at, AreNodesOf}
use Rattle.any_index.specs.declared.index.AnyIndex.{AnyIndex}
use Rattle.any_index.specs.Spelled.{IsSound, HasRoom, Holds, KeepsOthers, list_of, kind_of, col_of, index_of}
use Rattle.any_index.specs.Keyed.{marks_of, HasItsKey, Accepts, IsKeyed, IsKeyedBut, IsKeyedExcept, HasOneOfEachKey}

module _ {R : Type 0} where
  -- the nodes of the index, in its order
  abbrev pub nodes_of : AnyIndex → Store R → List Node
  nodes_of i s = list_of (columns_in s) i

  -- the links of the index are those of the store
  abbrev pub IsIn : AnyIndex → Store R → Type 0
  IsIn i s = IsSound (columns_in s) i

  -- the node is one of the index
  pub record HasNode (i : AnyIndex) (s : Store R) (n : Node) : Type 0 where
    pub sound : IsIn i s
    pub held : Holds (nodes_of i s) n

  -- the index is of a kind that has the call
  pub record IsOfKind (has : Kind → Bool) (i : AnyIndex) (s : Store R) : Type 0 where
    pub kind : IsTrue (has (kind_of i))
    pub sound : IsIn i s

  -- and the node is one of its
  pub record HasNodeOfKind (has : Kind → Bool) (i : AnyIndex) (s : Store R) (n : Node) : Type 0 where
    pub kind : IsTrue (has (kind_of i))
    pub node : HasNode i s n

  -- an index is a row, and another than this one
  pub record IsRowBeside (i row : AnyIndex) (s : Store R) : Type 0 where
    pub kind : kind_of row ≡ Random
    pub sound : IsIn row s
    pub apart : col_of i ≢ col_of row

  -- the index is of the same kind, column and number, and the other columns and the records are as before
  pub record KeepsRest (old new : AnyIndex) (before after : Store R) : Type 0 where
    pub kind : kind_of new ≡ kind_of old
    pub col : col_of new ≡ col_of old
    pub index : index_of new ≡ index_of old
    pub others : KeepsOthers (column_of before) (column_of after) (col_of old)
    pub contents : contents after ≡ contents before

module _ {E R P : Type 0} (X : Ghosts E R P) where
  -- how two nodes stand to one another by the key of the index
  abbrev pub order_in : AnyIndex → Store R → E → Node → Node → Ordering
  order_in i s keys = order_at (record_of s) (X.order_of keys (index_of i))

  -- how a node stands to a probe
  abbrev pub side_in : AnyIndex → Store R → E → P → Node → Ordering
  side_in i s keys probe = side_of (record_of s) (λ a. X.probe_order_of keys (index_of i) a probe)

  -- how a node stands to a record
  abbrev pub record_side_in : AnyIndex → Store R → E → R → Node → Ordering
  record_side_in i s keys value = side_of (record_of s) (λ a. X.order_of keys (index_of i) a value)

  -- the nodes of the index are where their keys put them
  pub record IsFiled (i : AnyIndex) (s : Store R) (keys : E) : Type 0 where
    pub sound : IsIn i s
    pub key : HasItsKey (X.has_key keys) i
    pub keyed : IsKeyed (X.order_of keys) (marks_of X keys) s i

  -- the index has room for a node of its column that it lacks
  pub record CanEnter (i : AnyIndex) (s : Store R) (keys : E) (n : Node) : Type 0 where
    pub filed : IsFiled i s keys
    pub room : HasRoom i
    pub node : IsNode (column_of s (col_of i)) n
    pub new : Lacks (nodes_of i s) n

  -- what is told of where the node goes: a place, and the node of a tree that it goes behind
  pub record GoesTo (i : AnyIndex) (s : Store R) (keys : E) (n : Node) (at : Option ℕ) (behind : Option Node) : Type 0 where
    pub place : (p : ℕ) → at ≡ Some p → p ≤ length (nodes_of i s)
    pub last : (m : Node) → behind ≡ Some m → IsTrue (has_key_kind (kind_of i)) → last_that (λ m. is_le (order_in i s keys m n)) (nodes_of i s) ≡ Some m

  -- all but this one of its nodes are, whose record may have changed
  pub record IsFiledBut (n : Node) (i : AnyIndex) (s : Store R) (keys : E) : Type 0 where
    pub node : HasNode i s n
    pub key : HasItsKey (X.has_key keys) i
    pub keyed : IsKeyedBut (X.order_of keys) (marks_of X keys) s i n

  -- all but the excepted node are, by a key, and no two of them have one key in a hashed index
  pub record IsFiledOnce (except : Option Node) (i : AnyIndex) (s : Store R) (keys : E) : Type 0 where
    pub kind : IsTrue (has_key_kind (kind_of i))
    pub excepted : AreNodesOf s except
    pub sound : IsIn i s
    pub key : HasItsKey (X.has_key keys) i
    pub keyed : IsKeyedExcept (X.order_of keys) (marks_of X keys) s i except
    pub unique : HasOneOfEachKey (X.order_of keys) s i except

  -- nodes can be looked for by the probe: it is a key of the index, and they are where their keys put them
  pub record CanFind (i : AnyIndex) (s : Store R) (keys : E) (probe : P) : Type 0 where
    pub sound : IsIn i s
    pub key : HasItsKey (X.has_key keys) i
    pub fits : Accepts (λ j. X.does_fit keys j probe) (λ j. X.is_whole keys j probe) i
    pub keyed : IsKeyed (X.order_of keys) (marks_of X keys) s i
