-- A member that stands in order stays where it settles.
use Rattle.std.proofs.Common.{◌≡◌, Bool, true, false, cond, ◌&&◌, List, [], ◌∷◌, ◌++◌, refl, ap, ◌∙◌, Some, None}
use Rattle.std.specs.List.{AllByRecursion}
use Rattle.std.specs.Option.{option_map_or}
use Rattle.std.specs.Cmp.{IsTotalOrder}
use Rattle.std.specs.Ordering.{is_gt, is_le, is_ge, ordering_reverse}
use Rattle.std.specs.declared.cmp.Ordering.{Ordering}
use Rattle.std.specs.declared.cmp.Ordering.TheVariants.{Less, Equal, Greater}
use Rattle.list_model.specs.Order.{IsInOrder}
use Rattle.list_model.specs.Walk.{without, prev_onto, fits_between, placed, settled}
use Rattle.list_model.proofs.Orders.{not_gt_le}
use Rattle.list_model.proofs.Settled.{first, last_from, next-middle, prev-middle}

module _ {X : Type 0} {compare : X → X → Ordering} (total : IsTotalOrder compare) where
  -- a list in order from a member on
  from_middle : (front : List X) (x : X) (back : List X) → IsInOrder compare (front ++ x ∷ back) → IsInOrder compare (x ∷ back)
  from_middle [] x back h = h
  from_middle (y ∷ front) x back h = from_middle front x back h.1

  -- the member before another does not come after it
  last_before : (y : X) (front : List X) (x : X) (back : List X) → IsInOrder compare (y ∷ (front ++ x ∷ back)) → is_gt (compare (last_from y front) x) ≡ false
  last_before y [] x back h = h.0.0
  last_before y (z ∷ front) x back h = last_before z front x back h.1

  reversed_ge : (o p : Ordering) → o ≡ ordering_reverse p → is_gt o ≡ false → is_ge p ≡ true
  reversed_ge o Less e h = absurd (cc)
  reversed_ge o Equal e h = refl
  reversed_ge o Greater e h = refl

  first_above : (x : X) (back : List X) → IsInOrder compare (x ∷ back) → option_map_or (λ y. is_ge (compare y x)) (first back) true ≡ true
  first_above x [] h = refl
  first_above x (y ∷ back) h = reversed_ge (compare x y) (compare y x) (total.antisymm x y) h.0.0

  -- a member fits where it stands in order
  fits_in_order : (is : X → Bool) (front : List X) (x : X) (back : List X) → AllByRecursion (λ y. is y ≡ false) front → is x ≡ true → IsInOrder compare (front ++ x ∷ back) → fits_between is (λ y. compare y x) (front ++ x ∷ back) ≡ true
  fits_in_order is [] x back f e h =
      let after = ap (λ o. option_map_or (λ z. is_ge (compare z x)) o true) (next-middle is [] x back f e) ∙ first_above x back h in
      λ i. option_map_or (λ z. is_le (compare z x)) (cond (e i) None (prev_onto is (Some x) back)) true && after i
  fits_in_order is (y ∷ front) x back f e h =
      let before = ap (λ o. option_map_or (λ z. is_le (compare z x)) o true) (prev-middle is y front x back f e) ∙ not_gt_le (compare (last_from y front) x) (last_before y front x back h) in
      let after = ap (λ o. option_map_or (λ z. is_ge (compare z x)) o true) (next-middle is (y ∷ front) x back f e) ∙ first_above x back (from_middle (y ∷ front) x back h) in
      λ i. before i && after i

  -- so settling leaves a list as it is that is in order with the member
  pub settled_in_order : (is : X → Bool) (front : List X) (x : X) (back : List X) → AllByRecursion (λ y. is y ≡ false) front → is x ≡ true → IsInOrder compare (front ++ x ∷ back) →
      settled is (λ y. compare y x) x (front ++ x ∷ back) ≡ front ++ x ∷ back
  settled_in_order is front x back f e h =
      let xs = front ++ x ∷ back in
      ap (λ b. cond b xs (placed (λ y. compare y x) x (without is xs))) (fits_in_order is front x back f e h)
