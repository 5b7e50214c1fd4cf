-- Chains whose nodes stand in the order of their ages.
use Rattle.std.specs.Prelude.{◌≡◌, ℕ, ◌<◌, List, ◌∷◌, ◌++◌, Option, Some, None, option_and_then}
use Rattle.node_store.specs.declared.Node.{Node}
use Rattle.node_store.specs.Column.{Column}
use Rattle.node_store.specs.Nodes.{first_or, last_or}
use Rattle.list_model.specs.Order.{EachPair}

-- each node of the list was added before all that come after it
abbrev pub Rises : (Node → ℕ) → List Node → Type 0
Rises ages xs = EachPair (λ x y. ages x < ages y) xs

-- the node that the link of this one leads up to
abbrev pub up_at : Column → Node → Option Node
up_at c n = option_and_then (λ l. l.up) (c n)

-- the new column leads up from each node as the old one does
abbrev pub KeepsUps : Column → Column → Type 0
KeepsUps c d = (n : Node) → up_at d n ≡ up_at c n

-- the node that the link of the list's first node leads up to
abbrev pub top_of : Column → List Node → Option Node
top_of c xs = option_and_then (up_at c) (first_or xs None)

-- where the first node leads up to a node, it is the last, and the list rises
abbrev pub IsRising : (Node → ℕ) → Column → List Node → Type 0
IsRising ages c xs = (m : Node) → top_of c xs ≡ Some m → (last_or xs None ≡ Some m) × Rises ages xs

-- the last node of a chain, where that is known by what its first node leads to and up to
abbrev pub known_last : Node → Option Node → Option Node → Option Node
known_last first None up = Some first
known_last first (Some n) up = up

-- which node is to be the last of a chain that rises, once one between these two has gone, where the first node leads up to `top`, or to `up` before it was first
abbrev pub top_beside : Option Node → Option Node → Option Node → Option Node → Option Node
top_beside None after up top = up
top_beside (Some m) None up None = None
top_beside (Some m) None up (Some top) = Some m
top_beside (Some m) (Some n) up top = top

-- where `up` is a node, the list with `n` before all rises, and ends with it
abbrev pub IsBefore : (Node → ℕ) → List Node → Node → Option Node → Type 0
IsBefore ages xs n up = (m : Node) → up ≡ Some m → (last_or xs None ≡ Some m) × Rises ages (n ∷ xs)

-- the node `at` stands in the list, and where `up` is a node, the list with `n` behind `at` rises, and ends with it
pub record IsBehind (ages : Node → ℕ) (xs : List Node) (at n : Node) (up : Option Node) : Type 0 where
  pub front : List Node
  pub back : List Node
  pub is : xs ≡ front ++ at ∷ back
  pub rises : (m : Node) → up ≡ Some m → (last_or (front ++ at ∷ n ∷ back) None ≡ Some m) × Rises ages (front ++ at ∷ n ∷ back)

-- `last` is the last node of a list that rises, where it is a node
abbrev pub IsLast : (Node → ℕ) → List Node → Option Node → Type 0
IsLast ages xs last = (m : Node) → last ≡ Some m → (last_or xs None ≡ Some m) × Rises ages xs
