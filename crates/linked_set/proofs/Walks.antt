-- What a walk along a list has passed. A node's place and the node after it: any_index/proofs/Runs, place_is and next_is.
use Rattle.std.proofs.Common.{◌≡◌, ℕ, zero, suc, ◌+◌, List, [], ◌∷◌, ◌++◌, map, take, length, slice_get, Some, None, refl, sym, ap, ◌∙◌, subst}
use Rattle.std.specs.List.{AllByRecursion}
use Rattle.std.proofs.lemmas.List.{map_more, length-append}
use Rattle.std.proofs.lemmas.Option.{slice_get_within, get_or_from_slice_get}
use Rattle.list_model.proofs.Lists.{All-at}

-- one member more
pub taken_more : {X Y : Type 0} (f : X → Y) (xs : List X) (i : ℕ) (x : X) → slice_get xs i ≡ Some x → map f (take (i + 1) xs) ≡ map f (take i xs) ++ f x ∷ []
taken_more f xs i x e =
    map_more f xs i x (slice_get_within xs i x e) ∙ ap (λ y. map f (take i xs) ++ f y ∷ []) (get_or_from_slice_get xs i x x e)

-- past the end all have been
pub taken_all : {X : Type 0} (xs : List X) (i : ℕ) → slice_get xs i ≡ None → take i xs ≡ xs
taken_all [] zero e = refl
taken_all [] (suc i) e = refl
taken_all (x ∷ xs) zero e = cc
taken_all (x ∷ xs) (suc i) e = ap (λ l. x ∷ l) (taken_all xs i e)

-- what has been met is of the first members, as many as it is
abbrev pub HasMet : {X Y : Type 0} → (X → Y) → List X → List Y → Type 0
HasMet f xs met = met ≡ map f (take (length met) xs)

pub one_met : {X Y : Type 0} (f : X → Y) (xs : List X) (met : List Y) (x : X) → slice_get xs (length met) ≡ Some x → HasMet f xs met → HasMet f xs (met ++ f x ∷ [])
one_met f xs met x here before =
    ap (λ l. l ++ f x ∷ []) before ∙ sym (taken_more f xs (length met) x here) ∙ ap (λ k. map f (take k xs)) (sym (length-append met (f x ∷ [])))

pub all_met : {X Y : Type 0} (f : X → Y) (xs : List X) (met : List Y) → slice_get xs (length met) ≡ None → HasMet f xs met → met ≡ map f xs
all_met f xs met end before = before ∙ ap (map f) (taken_all xs (length met) end)

-- what holds of each member holds of one at a place
pub member_at : {X : Type 0} (P : X → Type 0) (xs : List X) (i : ℕ) (x : X) → slice_get xs i ≡ Some x → AllByRecursion P xs → P x
member_at P xs i x e all = subst P (get_or_from_slice_get xs i x x e) (All-at P xs i x (slice_get_within xs i x e) all)
