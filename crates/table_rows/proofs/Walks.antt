-- Lists that are walked over.
use Rattle.std.proofs.Common.{◌≡◌, ◌∙◌, ◌+◌, ◌<◌, ℕ, List, [], ◌∷◌, ◌++◌, ap, get_or, length, take, flat_map, append-nil}
use Rattle.std.proofs.lemmas.Grind.{flat_map-append}
use Rattle.std.proofs.lemmas.List.{take_more}

-- the texts of one item more
pub one_more : {X : Type 0} (f : X → List ℕ) (xs : List X) (k : ℕ) (d : X) → k < length xs → flat_map f (take (k + 1) xs) ≡ flat_map f (take k xs) ++ f (get_or xs k d)
one_more f xs k d lt =
    ap (flat_map f) (take_more xs k d lt) ∙ (flat_map-append f (take k xs) (get_or xs k d ∷ []) ∙ ap (λ (ys : List ℕ). flat_map f (take k xs) ++ ys) (append-nil (f (get_or xs k d))))
