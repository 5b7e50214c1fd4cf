-- The nodes that a hashed index has, chain by chain.
use Rattle.std.specs.Prelude.{◌≡◌, ℕ, ◌+◌, ◌*◌, ◌/◌, ◌≤◌, List, length, map, Option, if◌then◌else◌, nat_lt}
use Rattle.node_store.specs.declared.Node.{Node}
use Rattle.node_store.specs.Column.{Column}
pub use Rattle.node_store.specs.Column.{KeepsOthers}
use Rattle.node_store.specs.Nodes.{IsDistinct}
use Rattle.hash_index.specs.declared.HashIndex.{HashIndex}
pub use Rattle.seq_index.specs.Spelled.{Holds}
use Rattle.seq_index.specs.Spelled.{follow}
pub use Rattle.hash_index.specs.Chains.{KeepsTags}
use Rattle.hash_index.specs.declared.head.Head.{Head}
use Rattle.hash_index.specs.Segments.{all_in, heads_in}
use Rattle.hash_index.specs.Heads.{AreRight}
use Rattle.hash_index.specs.Oldest.{AreOldest}
use Rattle.hash_index.specs.LinearHashing.{chain_of}
use Rattle.hash_index.specs.Chains.{AreChains, joined, untagged}

-- the column that the index uses
abbrev pub col_of : HashIndex → ℕ
col_of i = i.col

-- the index whose keys it hashes
abbrev pub index_of : HashIndex → ℕ
index_of i = i.index

-- the head of each chain
abbrev pub all_of : HashIndex → List Head
all_of i = all_in i.chains.segments.items

-- the first node of each chain
abbrev pub heads_of : HashIndex → List (Option Node)
heads_of i = heads_in i.chains.segments.items

-- how many buckets it has, each of four chains
abbrev pub buckets_of : HashIndex → ℕ
buckets_of i = i.chains.len / 4

-- how many buckets have room for one node more: as many as there are, or one more where there are no more than nodes
abbrev pub grown : ℕ → ℕ → ℕ
grown nodes buckets = if nat_lt nodes buckets then buckets else buckets + 1

-- the chain that a hash leads to
abbrev pub leads_to : HashIndex → ℕ → ℕ
leads_to i hash = chain_of i.level (i.chains.len) hash

-- the nodes of each chain
abbrev pub chains_of : (ℕ → Column) → HashIndex → List (List Node)
chains_of cs i = map (λ head. follow (untagged (cs i.col)) head i.len) (heads_of i)

-- the nodes of the chains, in their order
unfoldable pub spelled : (ℕ → Column) → HashIndex → List Node
spelled cs i = joined (chains_of cs i)

-- the index has these nodes, at most one a bucket on average, each in the chain of the hash that the column keeps of it, and
-- what its heads say is right
pub record Spells (ages : Node → ℕ) (cs : ℕ → Column) (i : HashIndex) (xs : List Node) : Type 0 where
  pub is : xs ≡ spelled cs i
  pub chains : AreChains ages (cs i.col) (leads_to i) 0 (heads_of i) (chains_of cs i)
  pub distinct : IsDistinct xs
  pub len : i.len ≡ length xs
  pub load : i.len * 4 ≤ i.chains.len
  pub right : AreRight (cs i.col) (all_of i)
  pub oldest : AreOldest ages (cs i.col) xs (all_of i)

-- the index is chains of distinct nodes
abbrev pub IsSound : (Node → ℕ) → (ℕ → Column) → HashIndex → Type 0
IsSound ages cs i = Spells ages cs i (spelled cs i)

-- one more node needs no more buckets
abbrev pub HasRoom : HashIndex → Type 0
HasRoom i = (i.len + 1) * 4 ≤ i.chains.len
