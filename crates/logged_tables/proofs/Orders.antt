-- Items that come in the order of their names.
use Rattle.std.proofs.Common.{◌≡◌, ℕ, ◌+◌, List, [], ◌∷◌, ◌++◌, length, map, take, sym, ap, ◌∙◌, Some}
use Rattle.std.specs.Prelude.{slice_get}
use Rattle.std.proofs.lemmas.List.{map-append, take_more}
use Rattle.std.proofs.lemmas.Option.{get_or_from_slice_get, slice_get_within}

-- one more has the next name
pub one_more : {X : Type 0} (xs ys : List X) (x : X) (name : X → List ℕ) (names : List (List ℕ)) (n m : ℕ) → ys ≡ xs ++ x ∷ [] → m ≡ n + 1 → map name xs ≡ take n names
    → slice_get names n ≡ Some (name x) → map name ys ≡ take m names
one_more xs ys x name names n m pushed count front at =
    ap (map name) pushed
    ∙ map-append name xs (x ∷ [])
    ∙ (λ i. front i ++ sym (get_or_from_slice_get names n (name x) [] at) i ∷ [])
    ∙ sym (take_more names n [] (slice_get_within names n (name x) at))
    ∙ ap (λ k. take k names) (sym count)
