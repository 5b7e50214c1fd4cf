-- Walks along one chain.
use Rattle.std.specs.Prelude.{◌≡◌, ◌≢◌, ℕ, List, [], ◌∷◌, ◌++◌, Option, Some, None}
use Rattle.std.specs.List.{AllByRecursion}
use Rattle.node_store.specs.declared.Node.{Node}
use Rattle.node_store.specs.Column.{Column, IsNode}
use Rattle.seq_index.specs.Spelled.{follow, following}
use Rattle.hash_index.specs.declared.HashIndex.{HashIndex}
use Rattle.hash_index.specs.Chains.{untagged, tag_at}
use Rattle.hash_index.specs.Spelled.{spelled}

-- from `at`, `b` leads through these nodes and no more
abbrev pub Leads : Column → Option Node → List Node → Type 0
Leads c at [] = at ≡ None
Leads c at (x ∷ xs) = (at ≡ Some x) × IsNode c x × Leads c (following c x) xs

-- the nodes of a chain from `at` on
abbrev pub rest_of : (ℕ → Column) → HashIndex → Option Node → List Node
rest_of cs i at = follow (untagged (cs i.col)) at i.len

-- and no node comes after them
abbrev pub Ends : (ℕ → Column) → HashIndex → Option Node → Type 0
Ends cs i at = Leads (untagged (cs i.col)) at (rest_of cs i at)

-- the chain from `head` has each node of the index that the column keeps this hash of
pub record HasHash (cs : ℕ → Column) (i : HashIndex) (hash : ℕ) (head : Option Node) : Type 0 where
  pub front : List Node
  pub back : List Node
  pub whole : spelled cs i ≡ front ++ (rest_of cs i head ++ back)
  pub ends : Ends cs i head
  pub before : AllByRecursion (λ n. tag_at (cs i.col) n ≢ Some hash) front
  pub after : AllByRecursion (λ n. tag_at (cs i.col) n ≢ Some hash) back
