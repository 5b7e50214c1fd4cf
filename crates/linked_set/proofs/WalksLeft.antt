-- Walks along the list of an index, from one node up to another.
use Rattle.std.proofs.Common.{◌≡◌, ℕ, zero, suc, ◌+◌, Bool, true, false, cond, not, List, [], ◌∷◌, length, take, drop, slice_get, Option, Some, None, refl, sym, ap, ◌∙◌, arith}
use Rattle.std.specs.Prelude.{count_by, filter, option_and_then}
use Rattle.std.specs.List.{AllByRecursion}
use Rattle.std.proofs.lemmas.Bool.{true_from_ne_false}
use Rattle.std.specs.declared.cmp.Ordering.{Ordering}
use Rattle.std.specs.declared.ops.Bound.{Bound}
use Rattle.std.specs.declared.ops.Bound.TheVariants.{Unbounded}
use Rattle.list_model.specs.Order.{EachPair}
use Rattle.list_model.specs.Place.{Edge, is_from, is_to, range}
use Rattle.list_model.specs.Walk.{place_of}
use Rattle.list_model.proofs.Counts.{count_by-cons, count_by_none}
use Rattle.list_model.proofs.InOrder.{All-map}
use Rattle.list_model.proofs.Kept.{filter_none}
use Rattle.list_model.proofs.Lists.{some_at}
use Rattle.node_store.specs.declared.Node.{Node}
use Rattle.node_store.specs.Nodes.{IsDistinct}
use Rattle.any_index.proofs.Runs.{place_is}
use Rattle.linked_set.specs.Edges.{Rises, edge_of}
use Rattle.linked_set.proofs.Ranges.{EachPair-drop, from_rises, to_falls, slice_get-drop, passed_is, skipped, before, none_kept}
use Rattle.linked_set.proofs.Walks.{taken_all}
use Rattle.linked_set.specs.Iteration.{is_one, nodes_left, IsRun}

-- ---- lists

drop_none : (X : Type 0) (i : ℕ) → ◌≡◌ {A = List X} (drop i []) []
drop_none X zero = refl
drop_none X (suc i) = refl

drop_past : {X : Type 0} (xs : List X) (i : ℕ) → slice_get xs i ≡ None → drop i xs ≡ []
drop_past [] i e = drop_none _ i
drop_past (x ∷ xs) zero e = cc
drop_past (x ∷ xs) (suc i) e = drop_past xs i e

drop_at : {X : Type 0} (xs : List X) (i : ℕ) (x : X) → slice_get xs i ≡ Some x → drop i xs ≡ x ∷ drop (i + 1) xs
drop_at [] i x e = cc
drop_at (y ∷ ys) zero x e = let same : y ≡ x = cc in ap (λ z. z ∷ ys) same
drop_at (y ∷ ys) (suc i) x e =
    let n : suc (i + 1) ≡ suc i + 1 = omega arith in
    drop_at ys i x e ∙ ap (λ k. x ∷ drop k (y ∷ ys)) n

drop_all : {X : Type 0} (xs : List X) → drop (place_of (λ x. false) xs) xs ≡ []
drop_all [] = refl
drop_all (x ∷ xs) = let n : 1 + place_of (λ y. false) xs ≡ suc (place_of (λ y. false) xs) = omega arith in ap (λ k. drop k (x ∷ xs)) n ∙ drop_all xs

pub take_all : {X : Type 0} (xs : List X) → take (place_of (λ x. false) xs) xs ≡ xs
take_all [] = refl
take_all (x ∷ xs) = let n : 1 + place_of (λ y. false) xs ≡ suc (place_of (λ y. false) xs) = omega arith in ap (λ k. take k (x ∷ xs)) n ∙ ap (λ l. x ∷ l) (take_all xs)

-- the members up to one that passes, where the first passes, and where it does not
take_here : {X : Type 0} (p : X → Bool) (x : X) (xs : List X) → p x ≡ true → take (place_of p (x ∷ xs)) (x ∷ xs) ≡ []
take_here p x xs e = ap (λ b. take (cond (not b) (1 + place_of p xs) 0) (x ∷ xs)) e

take_on : {X : Type 0} (p : X → Bool) (x : X) (xs : List X) → p x ≡ false → take (place_of p (x ∷ xs)) (x ∷ xs) ≡ x ∷ take (place_of p xs) xs
take_on p x xs e =
    let n : 1 + place_of p xs ≡ suc (place_of p xs) = omega arith in
    ap (λ b. take (cond (not b) (1 + place_of p xs) 0) (x ∷ xs)) e ∙ ap (λ k. take k (x ∷ xs)) n

-- past the last member there is none
pub at_length : {X : Type 0} (xs : List X) → slice_get xs (length xs) ≡ None
at_length [] = refl
at_length (x ∷ xs) = at_length xs

count_all : {X : Type 0} (xs : List X) → count_by (λ x. true) xs ≡ length xs
count_all [] = refl
count_all (x ∷ xs) = let rest = count_all xs in let more : count_by (λ y. true) (x ∷ xs) ≡ 1 + count_by (λ y. true) xs = count_by-cons (λ y. true) x xs in omega (arith, rest, more)

at_all : {X : Type 0} (xs : List X) → slice_get xs (count_by (λ x. true) xs) ≡ None
at_all xs = ap (slice_get xs) (count_all xs) ∙ at_length xs

-- no bound lets through all
pub past_unbounded : {P X : Type 0} (side : P → X → Ordering) (bound : Bound P) (xs : List X) → bound ≡ Unbounded → None ≡ slice_get xs (count_by (is_to (edge_of side bound)) xs)
past_unbounded side bound xs e = sym (ap (λ b. slice_get xs (count_by (is_to (edge_of side b)) xs)) e ∙ at_all xs)

-- ---- a walk

module _ (xs : List Node) (distinct : IsDistinct xs) where
  pub left_from : (i : ℕ) → drop (place_of (is_one (slice_get xs i)) xs) xs ≡ drop i xs
  left_from i = by_node (slice_get xs i) refl
    where
      by_node : (o : Option Node) → slice_get xs i ≡ o → drop (place_of (is_one o) xs) xs ≡ drop i xs
      by_node (Some n) e = ap (λ k. drop k xs) (place_is xs i n distinct e)
      by_node None e = drop_all xs ∙ sym (drop_past xs i e)

  pub left_up_to : (c : ℕ) → take (place_of (is_one (slice_get xs c)) xs) xs ≡ take c xs
  left_up_to c = by_node (slice_get xs c) refl
    where
      by_node : (o : Option Node) → slice_get xs c ≡ o → take (place_of (is_one o) xs) xs ≡ take c xs
      by_node (Some n) e = ap (λ k. take k xs) (place_is xs c n distinct e)
      by_node None e = take_all xs ∙ sym (taken_all xs c e)

  -- at the node that ends it, nothing is left
  pub none_left : (end : Option Node) (i : ℕ) (n : Node) → slice_get xs i ≡ Some n → is_one end n ≡ true → nodes_left (Some n) end xs ≡ []
  none_left end i n here is =
      ap (λ o. nodes_left o end xs) (sym here)
      ∙ (ap (λ ys. take (place_of (is_one end) ys) ys) (left_from i ∙ drop_at xs i n here) ∙ take_here (is_one end) n (drop (i + 1) xs) is)

  -- before it, this node and those from the next one on
  pub one_left : (end : Option Node) (i : ℕ) (n : Node) → slice_get xs i ≡ Some n → is_one end n ≡ false → nodes_left (Some n) end xs ≡ n ∷ nodes_left (slice_get xs (i + 1)) end xs
  one_left end i n here is =
      ap (λ o. nodes_left o end xs) (sym here)
      ∙ (ap (λ ys. take (place_of (is_one end) ys) ys) (left_from i ∙ drop_at xs i n here)
      ∙ (take_on (is_one end) n (drop (i + 1) xs) is ∙ ap (λ ys. n ∷ take (place_of (is_one end) ys) ys) (sym (left_from (i + 1)))))

-- nothing is left past the end
pub past_end : (end : Option Node) (xs : List Node) → nodes_left None end xs ≡ []
past_end end xs = ap (λ ys. take (place_of (is_one end) ys) ys) (drop_all xs)

-- ---- between two bounds

-- what a test lets through, where it lets through none after the first that it does not
run_by : {X : Type 0} (to : X → Bool) (x : X) (xs : List X) (b : Bool) → to x ≡ b → AllByRecursion (λ y. to x ≡ false → to y ≡ false) xs → filter to xs ≡ take (count_by to xs) xs →
    cond b (x ∷ filter to xs) (filter to xs) ≡ take (cond b 1 0 + count_by to xs) (x ∷ xs)
run_by to x xs true e later rest =
    let n : suc (count_by to xs) ≡ 1 + count_by to xs = omega arith in
    ap (λ l. x ∷ l) rest ∙ ap (λ k. take k (x ∷ xs)) n
run_by to x xs false e later rest =
    let none : AllByRecursion (λ y. to y ≡ false) xs = All-map _ _ (λ y f. f e) xs later in
    let zero_more : 0 ≡ 0 + count_by to xs = omega (arith, count_by_none to xs none) in
    filter_none to xs none ∙ ap (λ k. take k (x ∷ xs)) zero_more

run : {X : Type 0} (to : X → Bool) (xs : List X) → EachPair (λ x y. to x ≡ false → to y ≡ false) xs → filter to xs ≡ take (count_by to xs) xs
run to [] each = refl
run to (x ∷ xs) each = run_by to x xs (to x) refl each.0 (run to xs each.1) ∙ ap (λ k. take k (x ∷ xs)) (sym (count_by-cons to x xs))

-- all before one that it lets through it lets through
run_before : {X : Type 0} (to : X → Bool) (xs : List X) (b : ℕ) (n : X) → EachPair (λ x y. to x ≡ false → to y ≡ false) xs → slice_get xs b ≡ Some n → to n ≡ true → count_by to xs ≡ b + count_by to (drop b xs)
run_before to [] b n each here is = cc
run_before to (x ∷ xs) zero n each here is = omega arith
run_before to (x ∷ xs) (suc b) n each here is =
    let one : to x ≡ true = true_from_ne_false (to x) (λ no. let bad : true ≡ false = sym is ∙ some_at (λ y. to x ≡ false → to y ≡ false) xs b each.0 n here no in cc bad) in
    let rest = run_before to xs b n each.1 here is in
    count_by-cons to x xs ∙ (ap (λ t. cond t 1 0 + count_by to xs) one ∙ omega (arith, rest))

pub distinct_drop : (i : ℕ) (xs : List Node) → IsDistinct xs → IsDistinct (drop i xs)
distinct_drop zero xs h = h
distinct_drop (suc i) [] h = tt
distinct_drop (suc i) (x ∷ xs) h = distinct_drop i xs h.1

module _ (low high : Edge Node) (xs : List Node) (distinct : IsDistinct xs) (rises : Rises low xs) (falls : Rises high xs) where
  abbrev first : Option Node
  first = option_and_then (λ n. cond (is_to high n) (Some n) None) (slice_get xs (before low xs))

  none_between : first ≡ None → range low high xs ≡ []
  none_between none =
      let b = before low xs in
      let n : b + 0 ≡ b = omega arith in
      skipped (is_from low) (is_to high) xs (from_rises low xs rises)
      ∙ none_kept (is_to high) (drop b xs) (EachPair-drop _ b xs (to_falls high xs falls)) (ap (option_and_then (λ n. cond (is_to high n) (Some n) None)) (slice_get-drop b 0 xs ∙ ap (slice_get xs) n) ∙ none)

  some_between : (n : Node) → first ≡ Some n → nodes_left first (slice_get xs (count_by (is_to high) xs)) xs ≡ range low high xs
  some_between n found =
      let b = before low xs in
      let ys = drop b xs in
      let p = passed_is (is_to high) (slice_get xs b) n found in
      let stays = to_falls high xs falls in
      let end : slice_get xs (count_by (is_to high) xs) ≡ slice_get ys (count_by (is_to high) ys) = ap (slice_get xs) (run_before (is_to high) xs b n stays p.0 p.1) ∙ sym (slice_get-drop b (count_by (is_to high) ys) xs) in
      let from : drop (place_of (is_one first) xs) xs ≡ ys = ap (λ o. drop (place_of (is_one o) xs) xs) (found ∙ sym p.0) ∙ left_from xs distinct b in
      (λ i. take (place_of (is_one (end i)) (from i)) (from i))
      ∙ (left_up_to ys (distinct_drop b xs distinct) (count_by (is_to high) ys)
      ∙ (sym (run (is_to high) ys (EachPair-drop _ b xs stays)) ∙ sym (skipped (is_from low) (is_to high) xs (from_rises low xs rises))))

  -- from the first node within both bounds up to the first past the high one it goes over those between
  pub between_left : nodes_left first (slice_get xs (count_by (is_to high) xs)) xs ≡ range low high xs
  between_left = by_first first refl
    where
      by_first : (o : Option Node) → first ≡ o → nodes_left first (slice_get xs (count_by (is_to high) xs)) xs ≡ range low high xs
      by_first (Some n) e = some_between n e
      by_first None e = ap (λ o. nodes_left o (slice_get xs (count_by (is_to high) xs)) xs) e ∙ (past_end _ xs ∙ sym (none_between e))

  -- so its first node does not stand past the one that ends it
  pub between_runs : (next end : Option Node) → next ≡ first → end ≡ slice_get xs (count_by (is_to high) xs) → IsRun xs next end
  between_runs next end starts ends = by_first first refl
    where
      by_first : (o : Option Node) → first ≡ o → IsRun xs next end
      by_first (Some n) e =
          let p = passed_is (is_to high) (slice_get xs (before low xs)) n e in
          let later = run_before (is_to high) xs (before low xs) n (to_falls high xs falls) p.0 p.1 in
          record { from = before low xs; to = count_by (is_to high) xs; begins = starts ∙ e ∙ sym p.0; ends = ends; upward = λ m is. omega (arith, later) }
      by_first None e = record { from = length xs; to = count_by (is_to high) xs; begins = starts ∙ e ∙ sym (at_length xs); ends = ends; upward = λ m is. let bad : None ≡ Some m = sym (starts ∙ e) ∙ is in absurd (cc) }
