-- Chains of nodes, four for each bucket, by their numbers.
use Rattle.std.specs.Prelude.{◌≡◌, ◌≢◌, ℕ, ◌+◌, List, [], ◌∷◌, ◌++◌, length, map, filter, fold, max, Bool, false, ◌==◌, Option, Some, None}
use Rattle.std.specs.List.{AllByRecursion}
use Rattle.std.specs.Option.{option_map, option_map_or}
use Rattle.node_store.specs.declared.Node.{Node}
use Rattle.node_store.specs.declared.Link.{Link}
use Rattle.node_store.specs.Column.{Column}
use Rattle.node_store.specs.Nodes.{first_or}
use Rattle.seq_index.specs.Links.{Runs}
use Rattle.hash_index.specs.Rising.{IsRising}

-- links that lead to and fro, and no more
abbrev pub untagged_link : Link → Link
untagged_link l = record l { up = None; tag = 0 }

-- the same for those of a column
abbrev pub untagged : Column → Column
untagged c n = option_map untagged_link (c n)

-- the hash that the column keeps of a node
abbrev pub tag_at : Column → Node → Option ℕ
tag_at c n = option_map (λ l. l.tag) (c n)

-- the new column keeps the same hash of each node
abbrev pub KeepsTags : Column → Column → Type 0
KeepsTags c d = (n : Node) → tag_at d n ≡ tag_at c n

-- the hash that the column keeps of the node leads to this chain, where `to` says which chain a hash leads to
abbrev pub IsIn : Column → (ℕ → ℕ) → ℕ → Node → Type 0
IsIn c to b n = option_map to (tag_at c n) ≡ Some b

-- whether it does
abbrev pub leads : Column → (ℕ → ℕ) → ℕ → Node → Bool
leads c to b n = option_map_or (λ hash. to hash == b) (tag_at c n) false

-- those of the nodes that are in this chain
abbrev pub members : Column → (ℕ → ℕ) → ℕ → List Node → List Node
members c to b xs = filter (leads c to b) xs

-- the nodes of one chain, linked to and fro, from the first of them, whose link may say which one is the last of a chain that rises
pub record IsChain (ages : Node → ℕ) (c : Column) (to : ℕ → ℕ) (b : ℕ) (head : Option Node) (xs : List Node) : Type 0 where
  pub first : head ≡ first_or xs None
  pub runs : Runs (untagged c) None xs None
  pub members : AllByRecursion (IsIn c to b) xs
  pub rising : IsRising ages c xs

-- the chains from this one on
abbrev pub AreChains : (Node → ℕ) → Column → (ℕ → ℕ) → ℕ → List (Option Node) → List (List Node) → Type 0
AreChains ages c to b [] [] = Unit {0}
AreChains ages c to b [] (xs ∷ xss) = ⊥
AreChains ages c to b (head ∷ heads) [] = ⊥
AreChains ages c to b (head ∷ heads) (xs ∷ xss) = IsChain ages c to b head xs × AreChains ages c to (b + 1) heads xss

-- the nodes of the chains, one after another
abbrev pub joined : List (List Node) → List Node
joined [] = []
joined (xs ∷ xss) = xs ++ joined xss

-- the length of the longest of the chains
abbrev pub longest : List (List Node) → ℕ
longest xss = fold max 0 (map length xss)

-- the first node of the first chain that has one
abbrev pub first_head : List (Option Node) → Option Node
first_head [] = None
first_head (None ∷ heads) = first_head heads
first_head (Some n ∷ heads) = Some n

-- no block changed but that of this node, if there is one
abbrev pub KeepsOtherNodes : Column → Column → Option Node → Type 0
KeepsOtherNodes c d at = (m : Node) → at ≢ Some m → d m ≡ c m
