-- A node put last.
use Rattle.std.proofs.Common.{◌≡◌, List, [], ◌∷◌, ◌++◌, length, refl, ap}
use Rattle.std.specs.Prelude.{insert}

pub insert_last : {X : Type 0} (xs : List X) (n : X) → xs ++ n ∷ [] ≡ insert xs (length xs) n
insert_last [] n = refl
insert_last (x ∷ xs) n = ap (λ l. x ∷ l) (insert_last xs n)
