-- A member that moves or settles in a list does so in the mapped list.
use Rattle.std.proofs.Common.{◌≡◌, ℕ, ◌-◌, Bool, true, false, cond, not, ◌&&◌, List, [], ◌∷◌, map, Option, Some, None, refl, sym, ap, ◌∙◌}
use Rattle.std.specs.Prelude.{insert, nat_le, option_map}
use Rattle.std.specs.List.{AllByRecursion}
use Rattle.std.specs.Option.{option_map_or}
use Rattle.std.specs.Ordering.{is_le, is_ge}
use Rattle.std.specs.declared.cmp.Ordering.{Ordering}
use Rattle.list_model.specs.Place.{not_above}
use Rattle.list_model.specs.Walk.{place_of, without, relocated, next, prev, fits_between, placed, settled}
use Rattle.list_model.proofs.InOrder.{All-map}
use Rattle.linked_set.proofs.Entered.{map-insert}
use Rattle.linked_set.proofs.Filtered.{map_left}
use Rattle.linked_set.proofs.Mapped.{place_mapped, next_mapped, prev_mapped}
use Rattle.linked_set.proofs.Sides.{count_mapped}

module _ {X Y : Type 0} (f : X → Y) (is : X → Bool) (named : Y → Bool) where
  -- the members meant are those whose images are
  abbrev pub AreNamed : List X → Type 0
  AreNamed xs = AllByRecursion (λ x. is x ≡ named (f x)) xs

  without_mapped : (xs : List X) → AreNamed xs → map f (without is xs) ≡ without named (map f xs)
  without_mapped xs same = map_left f f (λ x. not (is x)) (λ y. not (named y)) xs (All-map _ _ (λ x e. (ap not e, (λ _. refl))) xs same)

  -- a member that moves in a list moves in the mapped list
  pub relocated_mapped : (x : X) (p : ℕ) (xs : List X) → AreNamed xs → map f (relocated is x p xs) ≡ relocated named (f x) p (map f xs)
  relocated_mapped x p xs same =
      map-insert f (without is xs) (cond (nat_le p (place_of is xs)) p (p - 1)) x
      ∙ (λ i. insert (without_mapped xs same i) (cond (nat_le p (place_mapped f is named xs same i)) p (p - 1)) (f x))

  module _ (side : Y → Ordering) where
    test_mapped : (test : Ordering → Bool) (o : Option X) → option_map_or (λ y. test (side y)) (option_map f o) true ≡ option_map_or (λ x. test (side (f x))) o true
    test_mapped test None = refl
    test_mapped test (Some x) = refl

    fits_between_mapped : (xs : List X) → AreNamed xs → fits_between named side (map f xs) ≡ fits_between is (λ x. side (f x)) xs
    fits_between_mapped xs same =
        let before : option_map_or (λ y. is_le (side y)) (prev named (map f xs)) true ≡ option_map_or (λ x. is_le (side (f x))) (prev is xs) true =
        ap (λ o. option_map_or (λ y. is_le (side y)) o true) (sym (prev_mapped f is named xs same)) ∙ test_mapped is_le (prev is xs) in
        let after : option_map_or (λ y. is_ge (side y)) (next named (map f xs)) true ≡ option_map_or (λ x. is_ge (side (f x))) (next is xs) true =
        ap (λ o. option_map_or (λ y. is_ge (side y)) o true) (sym (next_mapped f is named xs same)) ∙ test_mapped is_ge (next is xs) in
        λ i. before i && after i

    all_alike : (xs : List X) → AllByRecursion (λ x. is_le (side (f x)) ≡ is_le (side (f x))) xs
    all_alike [] = tt
    all_alike (x ∷ xs) = (refl, all_alike xs)

    placed_mapped : (x : X) (xs : List X) → map f (placed (λ z. side (f z)) x xs) ≡ placed side (f x) (map f xs)
    placed_mapped x xs =
        map-insert f xs (not_above (λ z. side (f z)) xs) x
        ∙ ap (λ k. insert (map f xs) k (f x)) (count_mapped f (λ z. is_le (side (f z))) (λ y. is_le (side y)) xs (all_alike xs))

    by_fit : (b : Bool) (xs ys : List X) (zs : List Y) → map f ys ≡ zs → map f (cond b xs ys) ≡ cond b (map f xs) zs
    by_fit true xs ys zs e = refl
    by_fit false xs ys zs e = e

    -- a member settles where its image does
    pub settled_mapped : (x : X) (xs : List X) → AreNamed xs → map f (settled is (λ z. side (f z)) x xs) ≡ settled named side (f x) (map f xs)
    settled_mapped x xs same =
        by_fit (fits_between is (λ z. side (f z)) xs) xs (placed (λ z. side (f z)) x (without is xs)) (placed side (f x) (without named (map f xs)))
        (placed_mapped x (without is xs) ∙ ap (placed side (f x)) (without_mapped xs same))
        ∙ ap (λ b. cond b (map f xs) (placed side (f x) (without named (map f xs)))) (sym (fits_between_mapped xs same))
