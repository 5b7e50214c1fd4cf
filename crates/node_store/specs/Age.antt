-- What a map by number has, in the order of the numbers.
use Rattle.std.specs.Prelude.{ℕ, zero, suc, List, [], ◌∷◌, ◌++◌, Option, None}
use Rattle.std.specs.Option.{option_or, option_map_or}
use Rattle.node_store.specs.declared.Node.{Node}
use Rattle.node_store.specs.Store.{Store, aged}

module _ {A : Type 0} where
  -- what stands at the greatest of the numbers below this one at which something stands
  abbrev pub last_below : (ℕ → Option A) → ℕ → Option A
  last_below f zero = None
  last_below f (suc k) = option_or (f k) (last_below f k)

  -- all that stands at numbers below this one
  abbrev pub all_below : (ℕ → Option A) → ℕ → List A
  all_below f zero = []
  all_below f (suc k) = all_below f k ++ option_map_or (λ x. x ∷ []) (f k) []

-- the nodes of a store, in the order of their adds
abbrev pub nodes_of : {R : Type 0} → Store R → List Node
nodes_of s = all_below (aged s) s.added
