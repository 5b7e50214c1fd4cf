-- The node that has a record's key, where a hashed index has one at most.
use Rattle.std.proofs.Common.{◌≡◌, ℕ, Bool, true, false, cond, not, ◌&&◌, List, [], ◌∷◌, Option, Some, None, refl, ap, sym, ◌∙◌, subst, slice_get}
use Rattle.std.specs.Prelude.{filter, find, IsPermutation}
use Rattle.std.specs.List.{AllByRecursion}
use Rattle.std.specs.Option.{option_map_or, option_cmp}
use Rattle.std.specs.Cmp.{IsTotalOrder}
use Rattle.std.specs.Ordering.{is_eq}
use Rattle.std.specs.declared.cmp.Ordering.{Ordering}
use Rattle.std.specs.declared.cmp.Ordering.TheVariants.{Less, Equal}
use Rattle.std.proofs.lemmas.Cmp.{tied_back}
use Rattle.std.proofs.lemmas.List.Sorted.{length_permutation}
use Rattle.list_model.specs.Order.{EachPair}
use Rattle.list_model.specs.Place.{find_equal}
use Rattle.list_model.proofs.Kept.{EachPair-filter, All-passed}
use Rattle.list_model.proofs.Lists.{All-moved}
use Rattle.list_model.proofs.Permuted.{IsPermutation-filter}
use Rattle.list_model.proofs.Orders.{eq_is_equal}
use Rattle.node_store.specs.declared.Node.{Node}
use Rattle.node_store.specs.ByNode.{same_node}
use Rattle.node_store.proofs.ByNode.{same_node-refl, same_node-true}
use Rattle.ord_tree.specs.Same.{without_excepted, equal_but}
use Rattle.ord_tree.specs.Side.{order_at, side_of}
use Rattle.hash_index.specs.Hashed.{others}
use Rattle.any_index.specs.Spelled.{by_age}
use Rattle.any_index.proofs.ByAge.{moved_back, without_moved}

all_kept : (xs : List Node) → others None xs ≡ xs
all_kept [] = refl
all_kept (x ∷ xs) = ap (λ l. x ∷ l) (all_kept xs)

-- both crates' words for a list without the excepted node
pub others_is : (except : Option Node) (xs : List Node) → others except xs ≡ without_excepted except xs
others_is None xs = all_kept xs
others_is (Some m) xs = refl

find_by : (p : Node → Bool) (b : Bool) (x : Node) (l : List Node) (rest : Option Node) → find p l ≡ rest → find p (cond b (x ∷ l) l) ≡ cond (b && p x) (Some x) rest
find_by p true x l rest e = ap (λ o. cond (p x) (Some x) o) e
find_by p false x l rest e = e

-- to look for a node among those that a filter keeps
pub find_filter : (p q : Node → Bool) (xs : List Node) → find p (filter q xs) ≡ find (λ n. q n && p n) xs
find_filter p q [] = refl
find_filter p q (x ∷ xs) = find_by p (q x) x (filter q xs) (find (λ n. q n && p n) xs) (find_filter p q xs)

first_by : (b : Bool) (x : Node) (o : Option Node) (l : List Node) → o ≡ slice_get l 0 → cond b (Some x) o ≡ slice_get (cond b (x ∷ l) l) 0
first_by true x o l e = refl
first_by false x o l e = e

-- it is the first that passes
pub find_first : (p : Node → Bool) (xs : List Node) → find p xs ≡ slice_get (filter p xs) 0
find_first p [] = refl
find_first p (x ∷ xs) = first_by (p x) x (find p xs) (filter p xs) (find_first p xs)

module _ {R : Type 0} (records : Node → Option R) (order : R → R → Ordering) (total : IsTotalOrder order) (r : R) where
  has_key : Node → Bool
  has_key n = is_eq (side_of records (λ a. order a r) n)

  -- two nodes that have the key have one key
  tied : (m n : Node) → has_key m ≡ true → has_key n ≡ true → is_eq (order_at records order m n) ≡ true
  unfolding has_key
  tied m n h k = by (records m) (records n) (eq_is_equal (option_map_or (λ a. order a r) (records m) Less) h) (eq_is_equal (option_map_or (λ a. order a r) (records n) Less) k)
    where
      by : (a b : Option R) → option_map_or (λ a. order a r) a Less ≡ Equal → option_map_or (λ a. order a r) b Less ≡ Equal → is_eq (option_cmp order a b) ≡ true
      by None b e f = cc
      by (Some x) None e f = cc
      by (Some x) (Some y) e f = ap is_eq (total.congr x r y e ∙ tied_back total y r f)

  -- so where each key stands once, at most one node has it
  one_at_most : (xs : List Node) → EachPair (λ m n. is_eq (order_at records order m n) ≡ false) xs → AllByRecursion (λ n. has_key n ≡ true) xs → (x y : Node) (rest : List Node) → xs ≡ x ∷ (y ∷ rest) → ⊥
  one_at_most xs once has x y rest e =
      let o = subst (EachPair (λ m n. is_eq (order_at records order m n) ≡ false)) e once in
      let h = subst (AllByRecursion (λ n. has_key n ≡ true)) e has in
      let bad = sym (tied x y h.0 h.1.0) ∙ o.0.0 in cc

  first_alike : (xs ys : List Node) → IsPermutation xs ys → ((x y : Node) (rest : List Node) → xs ≡ x ∷ (y ∷ rest) → ⊥) → slice_get ys 0 ≡ slice_get xs 0
  first_alike [] [] moved one = refl
  first_alike [] (y ∷ ys) moved one = let e = length_permutation [] (y ∷ ys) moved in cc
  first_alike (x ∷ []) [] moved one = let e = length_permutation (x ∷ []) [] moved in cc
  first_alike (x ∷ []) (y ∷ ys) moved one =
      let e : x ≡ y = (All-moved (λ z. x ≡ z) (x ∷ []) (y ∷ ys) moved (refl, tt)).0 in ap Some (sym e)
  first_alike (x ∷ (z ∷ rest)) ys moved one = absurd (one x z rest refl)

  -- what buckets answer is what the list by age does
  pub same_answer : (ages : Node → ℕ) (except : Option Node) (xs : List Node) → EachPair (λ m n. is_eq (order_at records order m n) ≡ false) (without_excepted except (by_age ages xs)) →
      find_equal (side_of records (λ a. order a r)) (others except xs) ≡ equal_but except (side_of records (λ a. order a r)) (by_age ages xs)
  unfolding has_key
  same_answer ages except xs once =
      let kept : Node → Bool = λ n. not (option_map_or (λ m. same_node m n) except false) in
      let ys = by_age ages xs in
      let old = filter has_key (filter kept xs) in
      let new = filter has_key (filter kept ys) in
      let moved : IsPermutation new old = IsPermutation-filter same_node same_node-true same_node-refl has_key (filter kept ys) (filter kept xs)
      (IsPermutation-filter same_node same_node-true same_node-refl kept ys xs (moved_back ages xs)) in
      let apart : EachPair (λ m n. is_eq (order_at records order m n) ≡ false) new =
      EachPair-filter (λ m n. is_eq (order_at records order m n) ≡ false) has_key (filter kept ys) (subst (EachPair (λ m n. is_eq (order_at records order m n) ≡ false)) (sym (others_is except ys)) once) in
      find_first has_key (filter kept xs)
      ∙ (first_alike new old moved (one_at_most new apart (All-passed has_key (filter kept ys)))
      ∙ (sym (find_first has_key (filter kept ys)) ∙ find_filter has_key kept ys))

  -- nor does the order of a list matter
  pub find_moved : (xs ys : List Node) → IsPermutation xs ys → EachPair (λ m n. is_eq (order_at records order m n) ≡ false) xs → find (λ n. is_eq (side_of records (λ a. order a r) n)) ys ≡ find (λ n. is_eq (side_of records (λ a. order a r) n)) xs
  unfolding has_key
  find_moved xs ys moved once =
      let old = filter has_key xs in
      let new = filter has_key ys in
      find_first has_key ys
      ∙ (first_alike old new (IsPermutation-filter same_node same_node-true same_node-refl has_key xs ys moved) (one_at_most old (EachPair-filter (λ m n. is_eq (order_at records order m n) ≡ false) has_key xs once) (All-passed has_key xs))
      ∙ sym (find_first has_key xs))

-- the same nodes in another order but for the excepted one
pub excepted_moved : (except : Option Node) (xs ys : List Node) → IsPermutation xs ys → IsPermutation (without_excepted except xs) (without_excepted except ys)
excepted_moved None xs ys moved = moved
excepted_moved (Some m) xs ys moved = without_moved xs ys m moved
