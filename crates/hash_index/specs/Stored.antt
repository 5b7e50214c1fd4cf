-- Chains in a store: what their calls ask for, read and leave.
use Rattle.std.specs.Prelude.{◌≡◌, List, Option, IsTrue}
use Rattle.std.specs.declared.cmp.Ordering.{Ordering}
use Rattle.node_store.specs.declared.Node.{Node}
use Rattle.node_store.specs.Column.{KeepsOthers}
use Rattle.node_store.specs.Nodes.{Holds}
use Rattle.node_store.specs.Store.{Store, age_of}
use Rattle.node_store.specs.ByNode.{column_of, contents}
use Rattle.key_extract.specs.declared.extract.Extract.{Ghosts}
use Rattle.hash_index.specs.declared.HashIndex.{HashIndex}
use Rattle.hash_index.specs.Spelled.{IsSound, spelled, col_of, index_of}
use Rattle.hash_index.specs.Hashed.{KeepsHash, IsHashed, side_of, matches, others}

module _ {R : Type 0} where
  -- the nodes of the chains, in their order
  abbrev pub nodes_of : HashIndex → Store R → List Node
  nodes_of i s = spelled (column_of s) i

  -- the links of the chains' nodes are those of the store
  abbrev pub AreChainsOf : HashIndex → Store R → Type 0
  AreChainsOf i s = IsSound (age_of s) (column_of s) i

  -- the node is one of the chains'
  pub record HasNode (i : HashIndex) (s : Store R) (n : Node) : Type 0 where
    pub chain : AreChainsOf i s
    pub held : Holds (nodes_of i s) n

  -- a change keeps the column and the index, and of the store the other columns and the records
  pub record KeepsRest (old new : HashIndex) (before after : Store R) : Type 0 where
    pub col : col_of new ≡ col_of old
    pub index : index_of new ≡ index_of old
    pub others : KeepsOthers (column_of before) (column_of after) (col_of old)
    pub contents : contents after ≡ contents before

module _ {E R P : Type 0} (X : Ghosts E R P) where
  -- how a node stands to a probe
  abbrev pub side_in : HashIndex → Store R → E → P → Node → Ordering
  side_in i s keys probe = side_of (λ a. X.probe_order_of keys (index_of i) a probe) s

  -- how a node stands to a record
  abbrev pub record_side_in : HashIndex → Store R → E → R → Node → Ordering
  record_side_in i s keys value = side_of (λ a. X.order_of keys (index_of i) a value) s

  -- the nodes whose records have the probe's key
  abbrev pub matches_in : HashIndex → Store R → E → P → List Node
  matches_in i s keys probe = matches (side_in i s keys probe) (nodes_of i s)

  -- the index's key is one of the keys
  abbrev pub HasKey : HashIndex → E → Type 0
  HasKey i keys = IsTrue (X.has_key keys (index_of i))

  -- the link of the node has the hash of its record's key
  abbrev pub HasItsHash : HashIndex → Store R → E → Node → Type 0
  HasItsHash i s keys n = KeepsHash (X.hash_of keys (index_of i)) s (col_of i) n

  -- those of the nodes do
  abbrev pub HaveTheirHash : HashIndex → Store R → E → List Node → Type 0
  HaveTheirHash i s keys xs = IsHashed (X.hash_of keys (index_of i)) s (col_of i) xs

  -- the links of all nodes but the excepted one have the hashes of their records' keys
  pub record IsHashedBut (except : Option Node) (i : HashIndex) (s : Store R) (keys : E) : Type 0 where
    pub chain : AreChainsOf i s
    pub has_key : HasKey i keys
    pub hashed : HaveTheirHash i s keys (others except (nodes_of i s))

  -- the links of all nodes have the hashes of their records' keys, and the probe is a whole key
  pub record CanSearch (i : HashIndex) (s : Store R) (keys : E) (probe : P) : Type 0 where
    pub chain : AreChainsOf i s
    pub has_key : HasKey i keys
    pub whole : IsTrue (X.is_whole keys (index_of i) probe)
    pub hashed : HaveTheirHash i s keys (nodes_of i s)
