-- A node that goes into the chain of a hash.
use Rattle.std.specs.Prelude.{◌≡◌, ◌≢◌, ℕ, ◌+◌, Some, ◌∷◌, IsPermutation}
use Rattle.node_store.specs.declared.Node.{Node}
use Rattle.node_store.specs.Column.{IsNode}
use Rattle.node_store.specs.Nodes.{Lacks}
use Rattle.node_store.specs.Store.{Store}
use Rattle.node_store.specs.ByNode.{column_of}
use Rattle.hash_index.specs.declared.HashIndex.{HashIndex}
use Rattle.hash_index.specs.Chains.{tag_at}
use Rattle.hash_index.specs.Spelled.{HasRoom, col_of, buckets_of}
use Rattle.hash_index.specs.Stored.{nodes_of, AreChainsOf, KeepsRest}

module _ {R : Type 0} where
  -- a node of the store that is in no chain, and there is room for it
  pub record CanPut (i : HashIndex) (s : Store R) (n : Node) : Type 0 where
    pub chain : AreChainsOf i s
    pub node : IsNode (column_of s (col_of i)) n
    pub new : Lacks (nodes_of i s) n
    pub room : HasRoom i

  -- the node is in the chain of the hash, and nothing else has changed
  pub record IsPut (old new : HashIndex) (before after : Store R) (n : Node) (hash : ℕ) : Type 0 where
    pub chain : AreChainsOf new after
    pub list : IsPermutation (n ∷ nodes_of old before) (nodes_of new after)
    pub tag : tag_at (column_of after (col_of old)) n ≡ Some hash
    pub tags : (m : Node) → m ≢ n → tag_at (column_of after (col_of old)) m ≡ tag_at (column_of before (col_of old)) m
    pub same : (m : Node) → m ≢ n → Lacks (nodes_of old before) m → column_of after (col_of old) m ≡ column_of before (col_of old) m
    pub len : new.len ≡ old.len + 1
    pub buckets : buckets_of new ≡ buckets_of old
    pub rest : KeepsRest old new before after
