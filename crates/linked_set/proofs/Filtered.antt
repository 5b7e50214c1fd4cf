-- What a filter leaves of a mapped list.
use Rattle.std.proofs.Common.{◌≡◌, Bool, true, false, cond, List, [], ◌∷◌, map, Option, Some, refl, ap, sym, ◌∙◌}
use Rattle.std.specs.Prelude.{filter}
use Rattle.std.specs.List.{AllByRecursion, filter_map, cons_option}

map_by : {X Y : Type 0} (f f' : X → Y) (x : X) (b : Bool) (l : List X) (m : List Y) → (b ≡ true → f' x ≡ f x) → map f' l ≡ m → map f' (cond b (x ∷ l) l) ≡ cond b (f x ∷ m) m
map_by f f' x true l m same rest = λ i. same refl i ∷ rest i
map_by f f' x false l m same rest = rest

-- to filter and map, by a map that differs at most where the filter stops
pub map_left : {X Y : Type 0} (f f' : X → Y) (p : X → Bool) (q : Y → Bool) (xs : List X) → AllByRecursion (λ x. (p x ≡ q (f x)) × (p x ≡ true → f' x ≡ f x)) xs → map f' (filter p xs) ≡ filter q (map f xs)
map_left f f' p q [] h = refl
map_left f f' p q (x ∷ xs) h =
    map_by f f' x (p x) (filter p xs) (filter q (map f xs)) h.0.1 (map_left f f' p q xs h.1) ∙ ap (λ b. cond b (f x ∷ filter q (map f xs)) (filter q (map f xs))) h.0.0

some_by : {X Y : Type 0} (f f' : X → Option Y) (x : X) (y : Y) (b : Bool) (l : List X) (m : List Y) → f x ≡ Some y → (b ≡ true → f' x ≡ f x) → filter_map f' l ≡ m → filter_map f' (cond b (x ∷ l) l) ≡ cond b (y ∷ m) m
some_by f f' x y true l m is same rest = λ i. cons_option ((same refl ∙ is) i) (rest i)
some_by f f' x y false l m is same rest = rest

-- so where each member is mapped to something
pub filter_map_left : {X Y : Type 0} (f f' : X → Option Y) (p : X → Bool) (q : Y → Bool) (xs : List X) → AllByRecursion (λ x. ((y : Y) × ((f x ≡ Some y) × (p x ≡ q y))) × (p x ≡ true → f' x ≡ f x)) xs → filter_map f' (filter p xs) ≡ filter q (filter_map f xs)
filter_map_left f f' p q [] h = refl
filter_map_left f f' p q (x ∷ xs) h =
    let some = h.0.0 in
    some_by f f' x some.0 (p x) (filter p xs) (filter q (filter_map f xs)) some.1.0 h.0.1 (filter_map_left f f' p q xs h.1)
    ∙ ap (λ b. cond b (some.0 ∷ filter q (filter_map f xs)) (filter q (filter_map f xs))) some.1.1
    ∙ ap (λ o. filter q (cons_option o (filter_map f xs))) (sym some.1.0)
