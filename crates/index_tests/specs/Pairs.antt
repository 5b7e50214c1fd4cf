-- Sets of two indices.
use Rattle.std.specs.Prelude.{◌≡◌, ℕ, Bool, List, ◌∷◌, [], true, false}
use Rattle.node_store.specs.declared.Node.{Node}
use Rattle.node_store.specs.Store.{IsNodeOf}
use Rattle.container_model.specs.declared.handle.Spec.{Spec}
use Rattle.container_model.specs.declared.handle.Kind.TheVariants.{Ordered, Hashed}
use Rattle.index_set.specs.declared.parts.Parts.{Parts}
use Rattle.index_set.specs.Set.{store_of, specs_of, IsSound}

-- one in order, and a hashed one without two records of one key
abbrev pub ordered_and_hashed : List Spec
ordered_and_hashed = record { kind = Ordered; unique = false } ∷ record { kind = Hashed; unique = true } ∷ []

-- each index has a key
abbrev pub has_each : {E : Type 0} → E → ℕ → Bool
has_each keys index = true

-- a set under these indices, which has the node
pub record IsPair {R E : Type 0} (s : Parts R E) (n : Node) : Type 0 where
  pub specs : specs_of s ≡ ordered_and_hashed
  pub sound : IsSound has_each s
  pub node : IsNodeOf (store_of s) n
