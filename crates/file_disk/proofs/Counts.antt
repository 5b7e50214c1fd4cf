-- Known bytes that grow.
use Rattle.std.proofs.Common.{refl, ap, ◌≡◌, ℕ, List, ◌++◌, Option, Some, None, append_assoc}
use Rattle.std.specs.Io.KnownBytes.{append_known}

-- bytes that are appended one after another
pub append_twice : (old : Option (List ℕ)) (a b : List ℕ) → append_known (append_known old a) b ≡ append_known old (a ++ b)
append_twice None a b = refl
append_twice (Some x) a b = ap Some (append_assoc x a b)
