-- Nodes by rising age.
use Rattle.std.proofs.Common.{◌≡◌, ◌≢◌, ℕ, suc, ◌+◌, ◌<◌, ◌≤◌, Bool, true, false, cond, not, List, [], ◌∷◌, refl, ap, sym, ◌∙◌, subst, arith, nat_lt}
use Rattle.std.specs.Prelude.{count_by, filter, IsPermutation}
use Rattle.std.specs.List.{AllByRecursion}
use Rattle.std.specs.Cmp.{IsTotalOrder}
use Rattle.std.specs.Ordering.{is_gt, nat_cmp}
use Rattle.std.proofs.lemmas.Bool.Decides.{nat_tests}
use Rattle.std.proofs.lemmas.Cmp.{nat_cmp_total, on_total}
use Rattle.std.proofs.lemmas.List.Sorted.{IsPermutation-sym, IsPermutation-trans, IsPermutation-insert, IsPermutation-cons}
use Rattle.std.proofs.lemmas.Map.Keys.{le_from_not_gt}
use Rattle.list_model.specs.Order.{EachPair, IsInOrder}
use Rattle.list_model.specs.Walk.{without, placed}
use Rattle.list_model.proofs.Counts.{count_by-cons, count_by_none}
use Rattle.list_model.proofs.InOrder.{All-map, IsInOrder-insert_sorted}
use Rattle.list_model.proofs.Kept.{EachPair-filter, All-filter, All-split}
use Rattle.list_model.proofs.Lists.{All-moved}
use Rattle.list_model.proofs.Moved.{IsPermutation-stable_sorted, IsInOrder-stable_sorted}
use Rattle.list_model.proofs.Permuted.{count_by-permutation, IsPermutation-filter}
use Rattle.node_store.specs.declared.Node.{Node}
use Rattle.node_store.specs.Nodes.{Lacks, Holds, IsDistinct}
use Rattle.node_store.specs.Store.{Store, IsStore, IsNodeOf, age_of}
use Rattle.node_store.specs.ByNode.{same_node}
use Rattle.node_store.proofs.ByNode.{same_node-refl, same_node-true, same_node-false}
use Rattle.node_store.proofs.Ages.{same_age}
use Rattle.node_store.proofs.Members.{IsDistinct_moved, each_held}
use Rattle.hash_index.proofs.Cutting.{Distinct_filter}
use Rattle.any_index.specs.Spelled.{age_cmp, by_age}

-- the ages rise
abbrev pub Rises : (Node → ℕ) → List Node → Type 0
Rises ages xs = EachPair (λ m n. ages m < ages n) xs

pub age_total : (ages : Node → ℕ) → IsTotalOrder (age_cmp ages)
age_total ages = on_total ages nat_cmp_total

-- ---- lists of rising ages that count alike are one

no_lower : (ages : Node → ℕ) (y : Node) (xs : List Node) → AllByRecursion (λ z. ages y < ages z) xs → AllByRecursion (λ z. nat_lt (ages z) (ages y) ≡ false) xs
no_lower ages y xs h = All-map _ _ (λ z lt. grind (arith, nat_tests)) xs h

none_lower : (ages : Node → ℕ) (y : Node) (ys : List Node) → AllByRecursion (λ z. ages y < ages z) ys → count_by (λ z. nat_lt (ages z) (ages y)) (y ∷ ys) ≡ 0
none_lower ages y ys h = count_by_none (λ z. nat_lt (ages z) (ages y)) (y ∷ ys) (grind (arith, nat_tests), no_lower ages y ys h)

hit : (p : Node → Bool) (x : Node) (xs : List Node) → p x ≡ true → count_by p (x ∷ xs) ≡ suc (count_by p xs)
hit p x xs e = count_by-cons p x xs ∙ (ap (λ b. cond b 1 0 + count_by p xs) e ∙ omega arith)

counted_first : (p : Node → Bool) (x : Node) (xs : List Node) → count_by p (x ∷ xs) ≡ 0 → p x ≡ false
counted_first p x xs h = by (p x) refl
  where
    by : (b : Bool) → p x ≡ b → p x ≡ false
    by false e = e
    by true e = absurd (omega (arith, hit p x xs e, h))

no_higher : (ages : Node → ℕ) (x y : Node) (xs ys : List Node) → Rises ages (y ∷ ys) → ((p : Node → Bool) → count_by p (x ∷ xs) ≡ count_by p (y ∷ ys)) → ages y ≤ ages x
no_higher ages x y xs ys rise same =
    let e : nat_lt (ages x) (ages y) ≡ false = counted_first (λ z. nat_lt (ages z) (ages y)) x xs (same (λ z. nat_lt (ages z) (ages y)) ∙ none_lower ages y ys rise.0) in
    grind (arith, nat_tests)

elsewhere : (ages : Node → ℕ) (x y : Node) (ys : List Node) → ages x ≡ ages y → AllByRecursion (λ z. ages y < ages z) ys → AllByRecursion (λ z. same_node x z ≡ false) ys
elsewhere ages x y ys e h = All-map _ _ (λ z lt. same_node-false x z (λ k. absurd (omega (arith, ap ages k, e, lt)))) ys h

same_first : (ages : Node → ℕ) (x y : Node) (xs ys : List Node) → Rises ages (x ∷ xs) → Rises ages (y ∷ ys) → ((p : Node → Bool) → count_by p (x ∷ xs) ≡ count_by p (y ∷ ys)) → x ≡ y
same_first ages x y xs ys rise rise_too same = by (same_node x y) refl
  where
    one_age : ages x ≡ ages y
    one_age = omega (arith, no_higher ages x y xs ys rise_too same, no_higher ages y x ys xs rise (λ p. sym (same p)))

    by : (b : Bool) → same_node x y ≡ b → x ≡ y
    by true e = same_node-true x y e
    by false e =
        let none : count_by (same_node x) (y ∷ ys) ≡ 0 = count_by_none (same_node x) (y ∷ ys) (e, elsewhere ages x y ys one_age rise_too.0) in
        absurd (omega (arith, none, same (same_node x), hit (same_node x) x xs (same_node-refl x)))

one_is_some : (y : Node) (ys : List Node) → count_by (same_node y) (y ∷ ys) ≡ 0 → ⊥
one_is_some y ys h = omega (arith, h, hit (same_node y) y ys (same_node-refl y))

pub same_rising : (ages : Node → ℕ) (xs ys : List Node) → Rises ages xs → Rises ages ys → ((p : Node → Bool) → count_by p xs ≡ count_by p ys) → xs ≡ ys
same_rising ages [] [] rise rise_too same = refl
same_rising ages [] (y ∷ ys) rise rise_too same = absurd (one_is_some y ys (sym (same (same_node y))))
same_rising ages (x ∷ xs) [] rise rise_too same = absurd (one_is_some x xs (same (same_node x)))
same_rising ages (x ∷ xs) (y ∷ ys) rise rise_too same =
    let e = same_first ages x y xs ys rise rise_too same in
    let rest : xs ≡ ys = same_rising ages xs ys rise.1 rise_too.1
    (λ p. let k : count_by p (x ∷ ys) ≡ count_by p (y ∷ ys) = ap (λ z. count_by p (z ∷ ys)) e in omega (arith, k, same p, count_by-cons p x xs, count_by-cons p x ys)) in
    ap (λ z. z ∷ xs) e ∙ ap (λ l. y ∷ l) rest

-- ---- distinct nodes

all_lacks : (n : Node) (xs : List Node) → AllByRecursion (λ x. n ≢ x) xs → Lacks xs n
all_lacks n [] h = tt
all_lacks n (x ∷ xs) h = (h.0, all_lacks n xs h.1)

lacks_all : (n : Node) (xs : List Node) → Lacks xs n → AllByRecursion (λ x. n ≢ x) xs
lacks_all n [] h = tt
lacks_all n (x ∷ xs) h = (h.0, lacks_all n xs h.1)

-- ---- nodes of one store

module _ {R : Type 0} (s : Store R) (sound : IsStore s) where
  above : (x : Node) (xs : List Node) → IsNodeOf s x → AllByRecursion (λ y. is_gt (age_cmp (age_of s) x y) ≡ false) xs → Lacks xs x → AllByRecursion (IsNodeOf s) xs → AllByRecursion (λ y. age_of s x < age_of s y) xs
  above x [] here order lacks of = tt
  above x (y ∷ ys) here order lacks of =
      let apart : age_of s x ≢ age_of s y = λ e. lacks.0 (same_age s sound x y here of.0 e) in
      (omega (arith, le_from_not_gt (age_of s x) (age_of s y) order.0, apart), above x ys here order.1 lacks.1 of.1)

  -- distinct nodes of a store in the order of their ages
  pub Rises_from : (xs : List Node) → IsInOrder (age_cmp (age_of s)) xs → IsDistinct xs → AllByRecursion (IsNodeOf s) xs → Rises (age_of s) xs
  Rises_from [] order distinct of = tt
  Rises_from (x ∷ xs) order distinct of = (above x xs of.0 order.0 distinct.0 of.1, Rises_from xs order.1 distinct.1 of.1)

  pub Rises_by_age : (xs : List Node) → IsDistinct xs → AllByRecursion (IsNodeOf s) xs → Rises (age_of s) (by_age (age_of s) xs)
  Rises_by_age xs distinct of =
      let moved = IsPermutation-stable_sorted (age_cmp (age_of s)) xs in
      Rises_from (by_age (age_of s) xs) (IsInOrder-stable_sorted (age_cmp (age_of s)) (age_total (age_of s)) xs) (IsDistinct_moved xs (by_age (age_of s) xs) moved distinct) (All-moved (IsNodeOf s) xs (by_age (age_of s) xs) moved of)

  -- a list in order of the same nodes is theirs by age
  pub by_age_is : (xs ys : List Node) → IsDistinct xs → AllByRecursion (IsNodeOf s) xs → IsPermutation xs ys → IsInOrder (age_cmp (age_of s)) ys → by_age (age_of s) xs ≡ ys
  by_age_is xs ys distinct of moved order =
      same_rising (age_of s) (by_age (age_of s) xs) ys (Rises_by_age xs distinct of)
      (Rises_from ys order (IsDistinct_moved xs ys moved distinct) (All-moved (IsNodeOf s) xs ys moved of))
      (λ p. count_by-permutation p xs (by_age (age_of s) xs) (IsPermutation-stable_sorted (age_cmp (age_of s)) xs) ∙ sym (count_by-permutation p xs ys moved))

  -- the same nodes in another order are the same by age
  pub by_age_moved : (xs ys : List Node) → IsDistinct xs → AllByRecursion (IsNodeOf s) xs → IsPermutation xs ys → by_age (age_of s) ys ≡ by_age (age_of s) xs
  by_age_moved xs ys distinct of moved =
      sym (by_age_is xs (by_age (age_of s) ys) distinct of (IsPermutation-trans xs ys (by_age (age_of s) ys) moved (IsPermutation-stable_sorted (age_cmp (age_of s)) ys)) (IsInOrder-stable_sorted (age_cmp (age_of s)) (age_total (age_of s)) ys))

  -- one node more
  pub by_age_entered : (n : Node) (xs ys : List Node) → IsDistinct ys → AllByRecursion (IsNodeOf s) ys → IsPermutation (n ∷ xs) ys → by_age (age_of s) ys ≡ placed (λ m. age_cmp (age_of s) m n) n (by_age (age_of s) xs)
  by_age_entered n xs ys distinct of moved =
      let sorted = by_age (age_of s) xs in
      by_age_is ys (placed (λ m. age_cmp (age_of s) m n) n sorted) distinct of
      (IsPermutation-trans ys (n ∷ xs) _ (IsPermutation-sym (n ∷ xs) ys moved)
      (IsPermutation-trans (n ∷ xs) (n ∷ sorted) _ (IsPermutation-cons n xs sorted (IsPermutation-stable_sorted (age_cmp (age_of s)) xs)) (IsPermutation-insert sorted _ n)))
      (IsInOrder-insert_sorted (age_total (age_of s)) n sorted (IsInOrder-stable_sorted (age_cmp (age_of s)) (age_total (age_of s)) xs))

  -- the nodes that pass
  pub by_age_filter : (q : Node → Bool) (xs : List Node) → IsDistinct xs → AllByRecursion (IsNodeOf s) xs → by_age (age_of s) (filter q xs) ≡ filter q (by_age (age_of s) xs)
  by_age_filter q xs distinct of =
      by_age_is (filter q xs) (filter q (by_age (age_of s) xs)) (Distinct_filter q xs distinct) (All-filter (IsNodeOf s) q xs of)
      (IsPermutation-filter same_node same_node-true same_node-refl q xs (by_age (age_of s) xs) (IsPermutation-stable_sorted (age_cmp (age_of s)) xs))
      (EachPair-filter (λ x y. is_gt (age_cmp (age_of s) x y) ≡ false) q (by_age (age_of s) xs) (IsInOrder-stable_sorted (age_cmp (age_of s)) (age_total (age_of s)) xs))

-- ---- ages that stay

abbrev AreAged : (before after : Node → ℕ) → List Node → Type 0
AreAged before after xs = AllByRecursion (λ m. after m ≡ before m) xs

order_aged : (before after : Node → ℕ) (xs : List Node) → AreAged before after xs → IsInOrder (age_cmp before) xs → IsInOrder (age_cmp after) xs
order_aged before after [] same h = tt
order_aged before after (x ∷ xs) same h = (each x xs same.0 same.1 h.0, order_aged before after xs same.1 h.1)
  where
    each : (y : Node) (ys : List Node) → after y ≡ before y → AreAged before after ys → AllByRecursion (λ z. is_gt (age_cmp before y z) ≡ false) ys → AllByRecursion (λ z. is_gt (age_cmp after y z) ≡ false) ys
    each y [] e all k = tt
    each y (z ∷ zs) e all k = ((λ i. is_gt (nat_cmp (e i) (all.0 i))) ∙ k.0, each y zs e all.1 k.1)

-- nodes that keep their ages stand by age as they stood
pub by_age_kept : {R : Type 0} (s : Store R) → IsStore s → (before : Node → ℕ) (xs : List Node) → IsDistinct xs → AllByRecursion (IsNodeOf s) xs → AreAged before (age_of s) xs → by_age (age_of s) xs ≡ by_age before xs
by_age_kept s sound before xs distinct of same =
    let moved = IsPermutation-stable_sorted (age_cmp before) xs in
    by_age_is s sound xs (by_age before xs) distinct of moved (order_aged before (age_of s) (by_age before xs) (All-moved (λ m. age_of s m ≡ before m) xs (by_age before xs) moved same) (IsInOrder-stable_sorted (age_cmp before) (age_total before) xs))

-- ---- members

pub Lacks_moved : (xs ys : List Node) (n : Node) → IsPermutation xs ys → Lacks xs n → Lacks ys n
Lacks_moved xs ys n moved h = all_lacks n ys (All-moved (λ x. n ≢ x) xs ys moved (lacks_all n xs h))

pub Holds_moved : (xs ys : List Node) (n : Node) → IsPermutation xs ys → Holds xs n → Holds ys n
Holds_moved xs ys n moved h =
    let all : AllByRecursion (Holds ys) xs = All-moved (Holds ys) ys xs (IsPermutation-sym xs ys moved) (each_held ys) in
    (All-split (Holds ys) h.before (n ∷ h.after) (subst (AllByRecursion (Holds ys)) h.is all)).1.0

-- the nodes of a list are those of it by age
pub moved_by_age : (ages : Node → ℕ) (xs : List Node) → IsPermutation xs (by_age ages xs)
moved_by_age ages xs = IsPermutation-stable_sorted (age_cmp ages) xs

pub moved_back : (ages : Node → ℕ) (xs : List Node) → IsPermutation (by_age ages xs) xs
moved_back ages xs = IsPermutation-sym xs (by_age ages xs) (moved_by_age ages xs)

-- the same nodes but one are the same
pub without_moved : (xs ys : List Node) (n : Node) → IsPermutation xs ys → IsPermutation (without (same_node n) xs) (without (same_node n) ys)
without_moved xs ys n moved = IsPermutation-filter same_node same_node-true same_node-refl (λ y. not (same_node n y)) xs ys moved
