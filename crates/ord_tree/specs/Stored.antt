-- A tree in a store: what its calls ask for, read and leave.
use Rattle.std.specs.Prelude.{◌≡◌, ℕ, ◌*◌, ◌^◌, ◌<◌, ◌≤◌, List, Option, length, IsTrue}
use Rattle.std.specs.declared.cmp.Ordering.{Ordering}
use Rattle.list_model.specs.Order.{IsInOrder}
use Rattle.node_store.specs.declared.Node.{Node}
use Rattle.node_store.specs.Column.{KeepsOthers}
use Rattle.node_store.specs.Nodes.{Holds}
use Rattle.node_store.specs.Store.{Store}
use Rattle.node_store.specs.ByNode.{column_of, record_of, contents}
use Rattle.key_extract.specs.declared.extract.Extract.{Ghosts}
use Rattle.ord_tree.specs.declared.tally.Tally.{Ghosts as Tallies}
use Rattle.ord_tree.specs.declared.tree.OrdTree.{OrdTree}
use Rattle.ord_tree.specs.Digests.{KeepsDigest, AreDigested}
use Rattle.ord_tree.specs.Side.{side_of, order_at}
use Rattle.ord_tree.specs.Same.{without_excepted}
use Rattle.ord_tree.specs.Spelled.{Spells, IsSound, spelled, col_of, index_of}

-- a number of steps that is at most twice the binary digits of the length
abbrev pub AreFew : ℕ → List Node → Type 0
AreFew steps xs = (k : ℕ) → length xs < 2 ^ k → steps ≤ 2 * k

module _ {T : Type 0} {G : Tallies T} where
  module _ {R : Type 0} where
    -- the nodes of the tree, in its order
    abbrev pub nodes_of : OrdTree T G → Store R → List Node
    nodes_of i s = spelled (column_of s) i

    -- the tree is balanced, and its links are those of the store
    abbrev pub IsTreeOf : OrdTree T G → Store R → Type 0
    IsTreeOf i s = IsSound (column_of s) i

    -- the node is one of the tree's
    pub record HasNode (i : OrdTree T G) (s : Store R) (n : Node) : Type 0 where
      pub tree : IsTreeOf i s
      pub held : Holds (nodes_of i s) n

    -- The tree has become one of these nodes. Its column and index are as before, as are the other columns and the
    -- records of the store.
    pub record BecomesTree (old new : OrdTree T G) (before after : Store R) (xs : List Node) : Type 0 where
      pub list : Spells (column_of after) new xs
      pub col : col_of new ≡ col_of old
      pub index : index_of new ≡ index_of old
      pub others : KeepsOthers (column_of before) (column_of after) (col_of old)
      pub contents : contents after ≡ contents before

  module _ {E R P : Type 0} (X : Ghosts E R P) where
    -- how two nodes stand to one another by the tree's key
    abbrev pub order_in : OrdTree T G → Store R → E → Node → Node → Ordering
    order_in i s keys = order_at (record_of s) (X.order_of keys (index_of i))

    -- how a node stands to a probe
    abbrev pub side_in : OrdTree T G → Store R → E → P → Node → Ordering
    side_in i s keys probe = side_of (record_of s) (λ a. X.probe_order_of keys (index_of i) a probe)

    -- how a node stands to a record
    abbrev pub record_side_in : OrdTree T G → Store R → E → R → Node → Ordering
    record_side_in i s keys value = side_of (record_of s) (λ a. X.order_of keys (index_of i) a value)

    -- the tree's key is one of the keys
    abbrev pub HasKey : OrdTree T G → E → Type 0
    HasKey i keys = IsTrue (X.has_key keys (index_of i))

    -- the link of the node has the digest of its record's key
    abbrev pub HasItsDigest : OrdTree T G → Store R → E → Node → Type 0
    HasItsDigest i s keys n = KeepsDigest (X.digest_of keys (index_of i)) s (col_of i) n

    -- those of the nodes do
    abbrev pub HaveTheirDigests : OrdTree T G → Store R → E → List Node → Type 0
    HaveTheirDigests i s keys xs = AreDigested (X.digest_of keys (index_of i)) s (col_of i) xs

    -- the nodes of the tree stand in the order of its key, and their links have their digests
    pub record IsOrdered (i : OrdTree T G) (s : Store R) (keys : E) : Type 0 where
      pub tree : IsTreeOf i s
      pub key : HasKey i keys
      pub order : IsInOrder (order_in i s keys) (nodes_of i s)
      pub digested : HaveTheirDigests i s keys (nodes_of i s)

    -- all but the excepted one do
    pub record IsOrderedBut (except : Option Node) (i : OrdTree T G) (s : Store R) (keys : E) : Type 0 where
      pub tree : IsTreeOf i s
      pub key : HasKey i keys
      pub order : IsInOrder (order_in i s keys) (without_excepted except (nodes_of i s))
      pub digested : HaveTheirDigests i s keys (without_excepted except (nodes_of i s))

    -- the nodes stand in order, their links have their digests, and the probe is a part of the key
    pub record CanSearch (i : OrdTree T G) (s : Store R) (keys : E) (probe : P) : Type 0 where
      pub tree : IsTreeOf i s
      pub key : HasKey i keys
      pub fits : IsTrue (X.does_fit keys (index_of i) probe)
      pub order : IsInOrder (order_in i s keys) (nodes_of i s)
      pub digested : HaveTheirDigests i s keys (nodes_of i s)
