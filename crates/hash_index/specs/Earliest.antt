-- The node of the least age.
use Rattle.std.specs.Prelude.{ℕ, cond, List, [], ◌∷◌, Option, Some, None}
use Rattle.std.specs.Ordering.{is_le, nat_cmp}
use Rattle.node_store.specs.declared.Node.{Node}

-- the one of two nodes that was added first
abbrev pub earlier : (Node → ℕ) → Option Node → Node → Node
earlier ages None n = n
earlier ages (Some m) n = cond (is_le (nat_cmp (ages m) (ages n))) m n

-- the one of a node, if there is one, and a list that was added first
abbrev pub earliest_of : (Node → ℕ) → Option Node → List Node → Option Node
earliest_of ages first [] = first
earliest_of ages first (x ∷ xs) = earliest_of ages (Some (earlier ages first x)) xs
