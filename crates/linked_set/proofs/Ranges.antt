-- The members between two bounds, where the sides rise: those from the first within the low bound to the last within the high one.
use Rattle.std.proofs.Common.{◌≡◌, ℕ, zero, suc, ◌+◌, ◌≤◌, Bool, true, false, cond, ◌&&◌, not, List, [], ◌∷◌, drop, slice_get, Option, Some, None, refl, sym, ap, ◌∙◌, arith}
use Rattle.std.specs.Prelude.{count_by, filter, option_and_then}
use Rattle.std.specs.List.{AllByRecursion}
use Rattle.std.specs.Ordering.{is_lt, is_le, is_gt, is_ge, ordering_index}
use Rattle.std.specs.declared.cmp.Ordering.{Ordering}
use Rattle.std.specs.declared.cmp.Ordering.TheVariants.{Less, Equal, Greater}
use Rattle.std.specs.declared.ops.Bound.{Bound}
use Rattle.std.specs.declared.ops.Bound.TheVariants.{Included, Excluded, Unbounded}
use Rattle.list_model.specs.Order.{EachPair}
use Rattle.list_model.specs.Place.{Edge, Inclusive, Exclusive, Open, is_from, is_to, lower, upper}
use Rattle.list_model.proofs.Counts.{count_by-cons, count_by_none}
use Rattle.list_model.proofs.InOrder.{All-map}
use Rattle.list_model.proofs.Kept.{EachPair-map, filter_none}
use Rattle.list_model.proofs.Orders.{lt_falls, le_falls}
use Rattle.linked_set.specs.Edges.{edge_of, Rises}

-- ---- lists

pub EachPair-drop : {X : Type 0} (P : X → X → Type 0) (i : ℕ) (xs : List X) → EachPair P xs → EachPair P (drop i xs)
EachPair-drop P zero xs each = each
EachPair-drop P (suc i) [] each = tt
EachPair-drop P (suc i) (x ∷ xs) each = EachPair-drop P i xs each.1

pub slice_get-drop : {X : Type 0} (i k : ℕ) (xs : List X) → slice_get (drop i xs) k ≡ slice_get xs (i + k)
slice_get-drop zero k xs = let n : k ≡ 0 + k = omega arith in ap (slice_get xs) n
slice_get-drop (suc i) k [] = refl
slice_get-drop (suc i) k (x ∷ xs) = let n : suc (i + k) ≡ suc i + k = omega arith in slice_get-drop i k xs ∙ ap (slice_get (x ∷ xs)) n

-- a member that is taken where it passes
pub passed_is : {X : Type 0} (p : X → Bool) (o : Option X) (x : X) → option_and_then (λ y. cond (p y) (Some y) None) o ≡ Some x → (o ≡ Some x) × (p x ≡ true)
passed_is p None x e = cc
passed_is p (Some y) x e = by_test (p y) refl e
  where
    by_test : (b : Bool) → p y ≡ b → cond b (Some y) None ≡ Some x → (Some y ≡ Some x) × (p x ≡ true)
    by_test false t k = cc
    by_test true t k = let same : y ≡ x = cc in (k, ap p (sym same) ∙ t)

-- those that a test lets through from a place on, where it lets through all after the first
skip_by : {X : Type 0} (from to : X → Bool) (x : X) (xs : List X) (b : Bool) → from x ≡ b → AllByRecursion (λ y. from x ≡ true → from y ≡ true) xs →
    filter (λ y. from y && to y) xs ≡ filter to (drop (count_by (λ y. not (from y)) xs) xs) →
    cond (b && to x) (x ∷ filter (λ y. from y && to y) xs) (filter (λ y. from y && to y) xs) ≡ filter to (drop (cond (not b) 1 0 + count_by (λ y. not (from y)) xs) (x ∷ xs))
skip_by from to x xs false e later rest =
    let n : suc (count_by (λ y. not (from y)) xs) ≡ 1 + count_by (λ y. not (from y)) xs = omega arith in
    rest ∙ ap (λ k. filter to (drop k (x ∷ xs))) n
skip_by from to x xs true e later rest =
    let none : count_by (λ y. not (from y)) xs ≡ 0 = count_by_none (λ y. not (from y)) xs (All-map _ _ (λ y f. ap not (f e)) xs later) in
    let whole : filter (λ y. from y && to y) xs ≡ filter to xs = rest ∙ ap (λ n. filter to (drop n xs)) none in
    let zero_more : 0 + count_by (λ y. not (from y)) xs ≡ 0 = omega (arith, none) in
    ap (λ l. cond (to x) (x ∷ l) l) whole ∙ sym (ap (λ n. filter to (drop n (x ∷ xs))) zero_more)

pub skipped : {X : Type 0} (from to : X → Bool) (xs : List X) → EachPair (λ x y. from x ≡ true → from y ≡ true) xs → filter (λ x. from x && to x) xs ≡ filter to (drop (count_by (λ x. not (from x)) xs) xs)
skipped from to [] each = refl
skipped from to (x ∷ xs) each =
    skip_by from to x xs (from x) refl each.0 (skipped from to xs each.1) ∙ ap (λ n. filter to (drop n (x ∷ xs))) (sym (count_by-cons (λ y. not (from y)) x xs))

not_passed : {X : Type 0} (to : X → Bool) (x : X) (b : Bool) → to x ≡ b → cond b (Some x) None ≡ None → to x ≡ false
not_passed to x false t e = t
not_passed to x true t e = cc

-- none, where it does not let through the first and none after one that it does not
pub none_kept : {X : Type 0} (to : X → Bool) (xs : List X) → EachPair (λ x y. to x ≡ false → to y ≡ false) xs → option_and_then (λ x. cond (to x) (Some x) None) (slice_get xs 0) ≡ None → filter to xs ≡ []
none_kept to [] each end = refl
none_kept to (x ∷ xs) each end =
    let no = not_passed to x (to x) refl end in
    filter_none to (x ∷ xs) (no, All-map _ _ (λ y f. f no) xs each.0)

-- ---- sides that rise

ge_rises : (o p : Ordering) → ordering_index o ≤ ordering_index p → is_ge o ≡ true → is_ge p ≡ true
ge_rises Less p h e = cc
ge_rises Equal Less h e = absurd (omega (arith, h))
ge_rises Greater Less h e = absurd (omega (arith, h))
ge_rises o Equal h e = refl
ge_rises o Greater h e = refl

gt_rises : (o p : Ordering) → ordering_index o ≤ ordering_index p → is_gt o ≡ true → is_gt p ≡ true
gt_rises Less p h e = cc
gt_rises Equal p h e = cc
gt_rises Greater Less h e = absurd (omega (arith, h))
gt_rises Greater Equal h e = absurd (omega (arith, h))
gt_rises Greater Greater h e = refl

all_units : {X : Type 0} (xs : List X) → AllByRecursion (λ x. Unit {0}) xs
all_units [] = tt
all_units (x ∷ xs) = (tt, all_units xs)

each_unit : {X : Type 0} (P : X → X → Type 0) → ((x y : X) → P x y) → (xs : List X) → EachPair P xs
each_unit P f [] = tt
each_unit {X} P f (x ∷ xs) = (all_of xs, each_unit P f xs)
  where
    all_of : (ys : List X) → AllByRecursion (P x) ys
    all_of [] = tt
    all_of (y ∷ ys) = (f x y, all_of ys)

pub from_rises : {X : Type 0} (low : Edge X) (xs : List X) → Rises low xs → EachPair (λ x y. is_from low x ≡ true → is_from low y ≡ true) xs
from_rises (Inclusive side) xs h = EachPair-map (λ x. Unit {0}) _ _ (λ x y _ _ le e. ge_rises (side x) (side y) le e) xs (all_units xs) h
from_rises (Exclusive side) xs h = EachPair-map (λ x. Unit {0}) _ _ (λ x y _ _ le e. gt_rises (side x) (side y) le e) xs (all_units xs) h
from_rises Open xs h = each_unit _ (λ x y e. refl) xs

pub to_falls : {X : Type 0} (high : Edge X) (xs : List X) → Rises high xs → EachPair (λ x y. is_to high x ≡ false → is_to high y ≡ false) xs
to_falls (Inclusive side) xs h = EachPair-map (λ x. Unit {0}) _ _ (λ x y _ _ le e. le_falls (side x) (side y) le e) xs (all_units xs) h
to_falls (Exclusive side) xs h = EachPair-map (λ x. Unit {0}) _ _ (λ x y _ _ le e. lt_falls (side x) (side y) le e) xs (all_units xs) h
to_falls Open xs h = each_unit _ (λ x y e. e) xs

-- how many members stand before the low bound
abbrev pub before : {X : Type 0} → Edge X → List X → ℕ
before low xs = count_by (λ x. not (is_from low x)) xs

all_no : {X : Type 0} (xs : List X) → AllByRecursion (λ x. false ≡ false) xs
all_no [] = tt
all_no (x ∷ xs) = (refl, all_no xs)

pub before_open : {X : Type 0} (xs : List X) → before Open xs ≡ 0
before_open xs = count_by_none (λ x. false) xs (all_no xs)

pub before_unbounded : {P X : Type 0} (side : P → X → Ordering) (bound : Bound P) (xs : List X) → bound ≡ Unbounded → before (edge_of side bound) xs ≡ 0
before_unbounded side bound xs e = ap (λ b. before (edge_of side b) xs) e ∙ before_open xs

ge_lt : (o : Ordering) → not (is_ge o) ≡ is_lt o
ge_lt Less = refl
ge_lt Equal = refl
ge_lt Greater = refl

gt_le : (o : Ordering) → not (is_gt o) ≡ is_le o
gt_le Less = refl
gt_le Equal = refl
gt_le Greater = refl

-- the first member that a bound lets through
pub lower_from : {P X : Type 0} (side : P → X → Ordering) (bound : Bound P) (p : P) (xs : List X) → bound ≡ Included p → lower (side p) xs ≡ slice_get xs (before (edge_of side bound) xs)
lower_from side bound p xs e = ap (slice_get xs) (λ i. count_by (λ x. sym (ge_lt (side p x)) i) xs) ∙ sym (ap (λ b. slice_get xs (before (edge_of side b) xs)) e)

pub upper_from : {P X : Type 0} (side : P → X → Ordering) (bound : Bound P) (p : P) (xs : List X) → bound ≡ Excluded p → upper (side p) xs ≡ slice_get xs (before (edge_of side bound) xs)
upper_from side bound p xs e = ap (slice_get xs) (λ i. count_by (λ x. sym (gt_le (side p x)) i) xs) ∙ sym (ap (λ b. slice_get xs (before (edge_of side b) xs)) e)
