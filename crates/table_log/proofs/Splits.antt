-- The parts of a list between separators, as the list grows.
use Rattle.std.proofs.Common.{◌≡◌, ◌<◌, Bool, true, false, cond, List, [], ◌∷◌, ◌++◌, length, refl, ap, ◌∙◌, arith}
use Rattle.std.specs.List.{slice_split, onto_first}
use Rattle.std.proofs.lemmas.List.Splits.{slice_split-cons_yes, slice_split-cons_no, length-slice_split}

-- one element more at the end of the last part
abbrev on_last : {X : Type 0} → X → List (List X) → List (List X)
on_last x [] = (x ∷ []) ∷ []
on_last x (part ∷ []) = (part ++ x ∷ []) ∷ []
on_last x (part ∷ next ∷ parts) = part ∷ on_last x (next ∷ parts)

on_last-at : {X : Type 0} (front : List (List X)) (last : List X) (y : X) → on_last y (front ++ last ∷ []) ≡ front ++ (last ++ y ∷ []) ∷ []
on_last-at [] last y = refl
on_last-at (part ∷ []) last y = refl
on_last-at (part ∷ next ∷ parts) last y = ap (λ ps. part ∷ ps) (on_last-at (next ∷ parts) last y)

grows_by : {X : Type 0} (b : Bool) (x y : X) (parts : List (List X)) → 0 < length parts
    → cond b ([] ∷ on_last y parts) (onto_first x (on_last y parts)) ≡ on_last y (cond b ([] ∷ parts) (onto_first x parts))
grows_by b x y [] some = absurd (omega arith)
grows_by true x y (part ∷ parts) some = refl
grows_by false x y (part ∷ []) some = refl
grows_by false x y (part ∷ next ∷ parts) some = refl

ends_by : {X : Type 0} (b : Bool) (x : X) (parts more : List (List X)) → 0 < length parts
    → cond b ([] ∷ parts ++ more) (onto_first x (parts ++ more)) ≡ cond b ([] ∷ parts) (onto_first x parts) ++ more
ends_by b x [] more some = absurd (omega arith)
ends_by true x (part ∷ parts) more some = refl
ends_by false x (part ∷ parts) more some = refl

module _ {X : Type 0} (p : X → Bool) where
  split-grows : (xs : List X) (y : X) → p y ≡ false → slice_split p (xs ++ y ∷ []) ≡ on_last y (slice_split p xs)
  split-grows [] y e = slice_split-cons_no p y [] e
  split-grows (x ∷ xs) y e =
      ap (λ parts. cond (p x) ([] ∷ parts) (onto_first x parts)) (split-grows xs y e)
      ∙ grows_by (p x) x y (slice_split p xs) (omega (arith, length-slice_split p xs))

  split-ends : (xs : List X) (y : X) → p y ≡ true → slice_split p (xs ++ y ∷ []) ≡ slice_split p xs ++ [] ∷ []
  split-ends [] y e = slice_split-cons_yes p y [] e
  split-ends (x ∷ xs) y e =
      ap (λ parts. cond (p x) ([] ∷ parts) (onto_first x parts)) (split-ends xs y e)
      ∙ ends_by (p x) x (slice_split p xs) ([] ∷ []) (omega (arith, length-slice_split p xs))

  -- one element more that is no separator
  pub grows : (xs : List X) (y : X) (front : List (List X)) (last : List X) → p y ≡ false
      → slice_split p xs ≡ front ++ last ∷ [] → slice_split p (xs ++ y ∷ []) ≡ front ++ (last ++ y ∷ []) ∷ []
  grows xs y front last e is = split-grows xs y e ∙ ap (on_last y) is ∙ on_last-at front last y

  -- one separator more
  pub ends : (xs : List X) (y : X) (front : List (List X)) (last : List X) → p y ≡ true
      → slice_split p xs ≡ front ++ last ∷ [] → slice_split p (xs ++ y ∷ []) ≡ (front ++ last ∷ []) ++ [] ∷ []
  ends xs y front last e is = split-ends xs y e ∙ ap (λ parts. parts ++ [] ∷ []) is
