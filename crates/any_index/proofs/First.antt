-- The first of a list by age is the node of the least age.
use Rattle.std.proofs.Common.{◌≡◌, ℕ, suc, ◌+◌, ◌<◌, Bool, true, false, cond, List, [], ◌∷◌, Some, None, refl, ap, ◌∙◌, arith, slice_get}
use Rattle.std.specs.Prelude.{insert}
use Rattle.std.specs.Ordering.{is_gt, is_le, nat_cmp}
use Rattle.std.proofs.lemmas.Bool.Decides.{nat_tests}
use Rattle.std.proofs.lemmas.Map.Keys.{le_from_not_gt}
use Rattle.list_model.specs.Order.{IsInOrder}
use Rattle.list_model.specs.Place.{not_above, insert_sorted, sorted_onto}
use Rattle.list_model.proofs.Counts.{count_by-cons, count_by_none}
use Rattle.list_model.proofs.InOrder.{All-map, IsInOrder-insert_sorted}
use Rattle.node_store.specs.declared.Node.{Node}
use Rattle.hash_index.specs.Earliest.{earlier, earliest_of}
use Rattle.any_index.specs.Spelled.{age_cmp, by_age}
use Rattle.any_index.proofs.ByAge.{age_total}

first_stays : (a b : ℕ) → is_le (nat_cmp a b) ≡ false → b < a
first_stays a b h = grind (arith, nat_tests)

later : (a b : ℕ) → b < a → is_le (nat_cmp a b) ≡ false
later a b h = grind (arith, nat_tests)

put_by : (ages : Node → ℕ) (x y : Node) (ys : List Node) (b : Bool) → is_le (age_cmp ages y x) ≡ b → IsInOrder (age_cmp ages) (y ∷ ys) → slice_get (insert_sorted (age_cmp ages) x (y ∷ ys)) 0 ≡ Some (cond b y x)
put_by ages x y ys true e h =
    let n : not_above (λ z. age_cmp ages z x) (y ∷ ys) ≡ suc (not_above (λ z. age_cmp ages z x) ys) =
    count_by-cons (λ z. is_le (age_cmp ages z x)) y ys ∙ (ap (λ b. cond b 1 0 + not_above (λ z. age_cmp ages z x) ys) e ∙ omega arith) in
    ap (λ k. slice_get (insert (y ∷ ys) k x) 0) n
put_by ages x y ys false e h =
    let n : not_above (λ z. age_cmp ages z x) (y ∷ ys) ≡ 0 =
    count_by_none (λ z. is_le (age_cmp ages z x)) (y ∷ ys) (
      e,
      All-map (λ z. is_gt (age_cmp ages y z) ≡ false) (λ z. is_le (age_cmp ages z x) ≡ false)
          (λ z le. later (ages z) (ages x) (omega (arith, le_from_not_gt (ages y) (ages z) le, first_stays (ages y) (ages x) e))) ys h.0,
    ) in
    ap (λ k. slice_get (insert (y ∷ ys) k x) 0) n

put_first : (ages : Node → ℕ) (x : Node) (done : List Node) → IsInOrder (age_cmp ages) done → slice_get (insert_sorted (age_cmp ages) x done) 0 ≡ Some (earlier ages (slice_get done 0) x)
put_first ages x [] h = refl
put_first ages x (y ∷ ys) h = put_by ages x y ys (is_le (age_cmp ages y x)) refl h

sorted_first : (ages : Node → ℕ) (done xs : List Node) → IsInOrder (age_cmp ages) done → slice_get (sorted_onto (age_cmp ages) done xs) 0 ≡ earliest_of ages (slice_get done 0) xs
sorted_first ages done [] h = refl
sorted_first ages done (x ∷ xs) h =
    sorted_first ages (insert_sorted (age_cmp ages) x done) xs (IsInOrder-insert_sorted (age_total ages) x done h) ∙ ap (λ o. earliest_of ages o xs) (put_first ages x done h)

pub first_by_age : (ages : Node → ℕ) (xs : List Node) → slice_get (by_age ages xs) 0 ≡ earliest_of ages None xs
first_by_age ages xs = sorted_first ages [] xs tt
