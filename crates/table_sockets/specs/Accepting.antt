-- What is known of what accepts connections.
use Rattle.std.specs.Prelude.{ℕ, List, Option, None, ⊤}

-- Of a turn T: that nothing was accepted in it; that a connection came in it, with these bytes to come and these written; that none could be accepted.
-- Of what comes of a connection, I: the bytes that reads will give, where they are known. Of what is written, O: these bytes.
pub record Accepting (T I O : Type 0) : Type 1 where
  pub begun : T → Type 0
  pub accepted : T → I → O → T → Type 0
  pub refused : T → T → Type 0
  pub remaining : I → Option (List ℕ)
  pub contents : O → Option (List ℕ)

-- nothing is known
abbrev pub unknown : {T I O : Type 0} → Accepting T I O
unknown = record { begun = λ _. ⊤; accepted = λ _ _ _ _. ⊤; refused = λ _ _. ⊤; remaining = λ _. None; contents = λ _. None }
