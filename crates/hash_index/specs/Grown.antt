-- An index with more chains.
use Rattle.std.specs.Prelude.{◌≡◌, ℕ, ◌+◌, ◌<◌, IsPermutation}
use Rattle.node_store.specs.Store.{Store}
use Rattle.node_store.specs.ByNode.{column_of}
use Rattle.hash_index.specs.declared.HashIndex.{HashIndex}
use Rattle.hash_index.specs.Chains.{members, KeepsTags}
use Rattle.hash_index.specs.Segments.{spare}
use Rattle.hash_index.specs.Spelled.{col_of, leads_to}
use Rattle.hash_index.specs.Stored.{nodes_of, AreChainsOf, KeepsRest}

-- the new index has so many chains more and the same nodes, of which those of each chain stand in the order in which they stood, and a
-- hash led to the chain from which the one was cut that it leads to now
pub record IsGrown {R : Type 0} (more : ℕ) (old new : HashIndex) (before after : Store R) : Type 0 where
  pub chain : AreChainsOf new after
  pub list : IsPermutation (nodes_of old before) (nodes_of new after)
  pub order : (b : ℕ) → members (column_of before (col_of old)) (leads_to new) b (nodes_of new after) ≡ members (column_of before (col_of old)) (leads_to new) b (nodes_of old before)
  pub tags : KeepsTags (column_of before (col_of old)) (column_of after (col_of old))
  pub leads : 0 < old.chains.len → (hash : ℕ) → leads_to old (leads_to new hash) ≡ leads_to old hash
  pub len : new.len ≡ old.len
  pub count : new.chains.len ≡ old.chains.len + more
  pub room : spare new.chains.segments.items + more ≡ spare old.chains.segments.items
  pub rest : KeepsRest old new before after
