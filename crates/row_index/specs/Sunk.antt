-- A list of which some members were put behind the others.
use Rattle.std.specs.Prelude.{◌≡◌, Bool, not, List, ◌++◌, filter, IsPermutation}

-- the list has the members of the old one: first those that stay, in their order, and behind them those that sink
pub record IsSunk {X : Type 0} (sinks : X → Bool) (old new : List X) : Type 0 where
  pub tail : List X
  pub is : new ≡ filter (λ x. not (sinks x)) old ++ tail
  pub members : IsPermutation old new
