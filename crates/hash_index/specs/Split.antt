-- A chain that is cut in two when one is added.
use Rattle.std.specs.Prelude.{◌≡◌, ℕ, ◌*◌, ◌%◌, List, filter, Bool, not, None, IsTrue}
use Rattle.node_store.specs.declared.Node.{Node}
use Rattle.node_store.specs.Column.{Column}
use Rattle.node_store.specs.Nodes.{first_or, last_or}
use Rattle.seq_index.specs.Links.{Runs}
use Rattle.hash_index.specs.declared.HashIndex.{HashIndex}
use Rattle.hash_index.specs.declared.chain.Chain.{Chain}
use Rattle.hash_index.specs.Chains.{untagged, leads}
use Rattle.hash_index.specs.Rising.{Rises}
use Rattle.hash_index.specs.Spelled.{all_of, leads_to}

-- the chain has these nodes
pub record Builds (ages : Node → ℕ) (c : Column) (chain : Chain) (xs : List Node) : Type 0 where
  pub first : chain.first ≡ first_or xs None
  pub last : chain.last ≡ last_or xs None
  pub runs : Runs (untagged c) None xs None
  pub rises : IsTrue chain.rises → Rises ages xs

-- whether the node goes to the chain after the last
abbrev pub goes : Column → HashIndex → Node → Bool
goes c i n = leads c (λ hash. hash % (i.level * 2)) (i.chains.len) n

-- the nodes that stay
abbrev pub left : Column → HashIndex → List Node → List Node
left c i xs = filter (λ n. not (goes c i n)) xs

-- the nodes that go
abbrev pub taken : Column → HashIndex → List Node → List Node
taken c i xs = filter (goes c i) xs

-- the new index has the same chains, and each hash leads where it did
pub record IsSame (old new : HashIndex) : Type 0 where
  pub chains : all_of new ≡ all_of old
  pub len : new.len ≡ old.len
  pub col : new.col ≡ old.col
  pub index : new.index ≡ old.index
  pub leads : (hash : ℕ) → leads_to new hash ≡ leads_to old hash
