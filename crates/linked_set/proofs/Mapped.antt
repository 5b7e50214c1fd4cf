-- What a list answers of its members by name, by test or by place: the same for a mapped list. To look for a member and to count: Sides.
use Rattle.std.proofs.Common.{◌≡◌, ◌+◌, Bool, true, false, cond, not, ◌||◌, List, [], ◌∷◌, length, map, slice_get, Option, Some, None, refl, ap, sym, ◌∙◌}
use Rattle.std.specs.List.{AllByRecursion, list_any}
use Rattle.std.specs.Prelude.{filter, option_map}
use Rattle.std.proofs.lemmas.List.{length-map}
use Rattle.std.proofs.lemmas.Option.{slice_get-map}
use Rattle.list_model.specs.Walk.{place_of, next, prev, prev_onto, last}
use Rattle.list_model.proofs.Kept.{map_by}

module _ {X Y : Type 0} (f : X → Y) where
  -- the member that stands last
  pub last_mapped : (xs : List X) → option_map f (last xs) ≡ last (map f xs)
  last_mapped [] = refl
  last_mapped (x ∷ xs) = sym (slice_get-map f (x ∷ xs) (length xs)) ∙ ap (slice_get (map f (x ∷ xs))) (sym (length-map xs f))

  module _ (p : X → Bool) (q : Y → Bool) where
    -- whether a member passes
    pub any_mapped : (xs : List X) → AllByRecursion (λ x. p x ≡ q (f x)) xs → list_any p xs ≡ list_any q (map f xs)
    any_mapped [] same = refl
    any_mapped (x ∷ xs) same = λ i. same.0 i || any_mapped xs same.1 i

    -- the place of a member
    pub place_mapped : (xs : List X) → AllByRecursion (λ x. p x ≡ q (f x)) xs → place_of p xs ≡ place_of q (map f xs)
    place_mapped [] same = refl
    place_mapped (x ∷ xs) same = λ i. cond (not (same.0 i)) (1 + place_mapped xs same.1 i) 0

    -- the member after it
    pub next_mapped : (xs : List X) → AllByRecursion (λ x. p x ≡ q (f x)) xs → option_map f (next p xs) ≡ next q (map f xs)
    next_mapped xs same = sym (slice_get-map f xs (place_of p xs + 1)) ∙ ap (λ k. slice_get (map f xs) (k + 1)) (place_mapped xs same)

    -- the members that pass
    pub filter_mapped : (xs : List X) → AllByRecursion (λ x. p x ≡ q (f x)) xs → map f (filter p xs) ≡ filter q (map f xs)
    filter_mapped [] same = refl
    filter_mapped (x ∷ xs) same =
        map_by f (p x) x (filter p xs) (filter q (map f xs)) (filter_mapped xs same.1) ∙ ap (λ b. cond b (f x ∷ filter q (map f xs)) (filter q (map f xs))) same.0

    before_by : (b : Bool) (before rest : Option X) (r : Option Y) → option_map f rest ≡ r → option_map f (cond b before rest) ≡ cond b (option_map f before) r
    before_by true before rest r e = refl
    before_by false before rest r e = e

    prev_onto_mapped : (before : Option X) (xs : List X) → AllByRecursion (λ x. p x ≡ q (f x)) xs → option_map f (prev_onto p before xs) ≡ prev_onto q (option_map f before) (map f xs)
    prev_onto_mapped before [] same = refl
    prev_onto_mapped before (x ∷ xs) same =
        before_by (p x) before (prev_onto p (Some x) xs) _ (prev_onto_mapped (Some x) xs same.1)
        ∙ ap (λ b. cond b (option_map f before) (prev_onto q (Some (f x)) (map f xs))) same.0

    -- the member before it
    pub prev_mapped : (xs : List X) → AllByRecursion (λ x. p x ≡ q (f x)) xs → option_map f (prev p xs) ≡ prev q (map f xs)
    prev_mapped xs same = prev_onto_mapped None xs same
