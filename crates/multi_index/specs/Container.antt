-- What holds of every container.
use Rattle.std.specs.Prelude.{ℕ, ◌<◌, ◌≤◌, ◌^◌, Bool}
use Rattle.std.specs.declared.cmp.Ordering.{Ordering}
use Rattle.container_model.specs.State.{IsState}
use Rattle.linked_set.specs.Records.{Records, state_of}

module _ {E R : Type 0} where
  -- records that are a container with this limit and this number of the last write
  pub record IsContainer (has_key : E → ℕ → Bool) (order : E → ℕ → R → R → Ordering) (records : Records E R) (max writes : ℕ) : Type 0 where
    pub state : IsState has_key order (state_of records max writes)
    pub narrow : max < 2 ^ 32
    pub numbered : writes < 2 ^ 64
    -- each add was a write
    pub added : records.added ≤ writes
