-- An accepted write of a container leaves one.
use Rattle.std.proofs.Common.{◌≡◌, ℕ, ◌+◌, ◌-◌, ◌<◌, ◌≤◌, ◌^◌, ◌==◌, Bool, false, sym, subst, arith}
use Rattle.std.specs.declared.cmp.Ordering.{Ordering}
use Rattle.std.proofs.lemmas.Bool.Decides.{nat_tests}
use Rattle.container_model.specs.State.{State, IsState}
use Rattle.linked_set.specs.Records.{Records, state_of}
use Rattle.multi_index.specs.Container.{IsContainer}

-- after a write that has not the greatest number there is a next one
pub next_number : (n : ℕ) → n < 2 ^ 64 → (n == 2 ^ 64 - 1) ≡ false → n + 1 < 2 ^ 64
next_number n less other = grind (arith, nat_tests)

module _ {E R : Type 0} {has_key : E → ℕ → Bool} {order : E → ℕ → R → R → Ordering} (old new : Records E R) (max writes : ℕ) (was : IsContainer has_key order old max writes) (added : new.added ≤ old.added + 1) (more : (writes == 2 ^ 64 - 1) ≡ false) where
  -- a write that leaves this container
  pub IsContainer-next : {s : State E R} → state_of new max (writes + 1) ≡ s → IsState has_key order s → IsContainer has_key order new max (writes + 1)
  IsContainer-next left state =
      let before = was.added in
      record { state = subst (IsState has_key order) (sym left) state; narrow = was.narrow; numbered = next_number writes was.numbered more; added = omega (arith, before, added) }

-- records that a refusal leaves as they were
pub IsContainer-same : {E R : Type 0} {has_key : E → ℕ → Bool} {order : E → ℕ → R → R → Ordering} {old new : Records E R} {max writes : ℕ} → new ≡ old → IsContainer has_key order old max writes → IsContainer has_key order new max writes
IsContainer-same {has_key = has_key} {order = order} {max = max} {writes = writes} same was = subst (λ r. IsContainer has_key order r max writes) (sym same) was

-- no more were put in
pub none_added : {m n : ℕ} → m ≡ n → m ≤ n + 1
none_added same = omega (arith, same)
