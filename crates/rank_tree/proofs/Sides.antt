-- How the nodes on either side of a node stand to a key.
use Rattle.std.proofs.Common.{◌≡◌, ◌≤◌, ℕ, ◌+◌, Bool, true, false, cond, ◌||◌, List, [], ◌∷◌, ◌++◌, length, refl, ap, ◌∙◌, arith}
use Rattle.std.specs.Prelude.{count_by}
use Rattle.std.specs.List.{AllByRecursion, list_any}
use Rattle.std.specs.Ordering.{is_eq, ordering_index}
use Rattle.std.specs.declared.cmp.Ordering.{Ordering}
use Rattle.std.specs.declared.cmp.Ordering.TheVariants.{Less, Equal, Greater}
use Rattle.std.proofs.lemmas.List.Folds.{list_any-append}
use Rattle.node_store.specs.declared.Node.{Node}
use Rattle.list_model.specs.Order.{EachPair}
use Rattle.list_model.proofs.Counts.{count_by-cons, count_by_none}
use Rattle.list_model.proofs.Permuted.{count_by-append}
use Rattle.list_model.proofs.InOrder.{All-map}
use Rattle.ord_tree.proofs.KeySides.{Rises}
use Rattle.ord_tree.proofs.Nearing.{EachPair-parts}
use Rattle.rank_tree.specs.Sides.{comes_first}

count_by_all : {X : Type 0} (q : X → Bool) (xs : List X) → AllByRecursion (λ x. q x ≡ true) xs → count_by q xs ≡ length xs
count_by_all q [] h = refl
count_by_all q (x ∷ xs) h = count_by-cons q x xs ∙ (ap (λ (b : Bool). cond b 1 0 + count_by q xs) h.0 ∙ omega (arith, count_by_all q xs h.1))

any_none : {X : Type 0} (q : X → Bool) (xs : List X) → AllByRecursion (λ x. q x ≡ false) xs → list_any q xs ≡ false
any_none q [] h = refl
any_none q (x ∷ xs) h = ap (λ (b : Bool). b || list_any q xs) h.0 ∙ any_none q xs h.1

-- the sides of a list that rises round one of its nodes
pub record Parts (side : Node → Ordering) (xs : List Node) (y : Node) (ys : List Node) : Type 0 where
  pub front : EachPair (Rises side) xs
  pub back : EachPair (Rises side) ys
  pub before : AllByRecursion (λ x. Rises side x y) xs
  pub after : AllByRecursion (Rises side y) ys

pub parts_of : (side : Node → Ordering) (xs : List Node) (y : Node) (ys : List Node) → EachPair (Rises side) (xs ++ y ∷ ys) → Parts side xs y ys
parts_of side xs y ys h =
    let p = EachPair-parts (Rises side) xs (y ∷ ys) h in
    record {
      front = p.front;
      back = p.back.1;
      before = All-map (λ x. AllByRecursion (Rises side x) (y ∷ ys)) (λ x. Rises side x y) (λ x k. k.0) xs p.across;
      after = p.back.0;
    }

first_before : (b : Bool) (o p : Ordering) → ordering_index o ≤ ordering_index p → comes_first b p ≡ true → comes_first b o ≡ true
first_before true Less p h e = refl
first_before true Equal p h e = refl
first_before true Greater Less h e = absurd (omega arith)
first_before true Greater Equal h e = absurd (omega arith)
first_before true Greater Greater h e = e
first_before false Less p h e = refl
first_before false Equal Less h e = absurd (omega arith)
first_before false Equal Equal h e = e
first_before false Equal Greater h e = e
first_before false Greater Less h e = absurd (omega arith)
first_before false Greater Equal h e = e
first_before false Greater Greater h e = e

last_after : (b : Bool) (o p : Ordering) → ordering_index o ≤ ordering_index p → comes_first b o ≡ false → comes_first b p ≡ false
last_after true Less p h e = cc
last_after true Equal p h e = cc
last_after true Greater Less h e = absurd (omega arith)
last_after true Greater Equal h e = absurd (omega arith)
last_after true Greater Greater h e = refl
last_after false Less p h e = cc
last_after false Equal Less h e = absurd (omega arith)
last_after false Equal Equal h e = refl
last_after false Equal Greater h e = refl
last_after false Greater Less h e = absurd (omega arith)
last_after false Greater Equal h e = refl
last_after false Greater Greater h e = refl

-- what stands before one that comes first and does not have the key does not have it
none_before : (b : Bool) (o p : Ordering) → ordering_index o ≤ ordering_index p → comes_first b p ≡ true → is_eq p ≡ false → is_eq o ≡ false
none_before b Less p h e f = refl
none_before b Greater p h e f = refl
none_before b Equal Less h e f = absurd (omega arith)
none_before b Equal Equal h e f = f
none_before true Equal Greater h e f = cc
none_before false Equal Greater h e f = cc

none_after : (b : Bool) (o p : Ordering) → ordering_index o ≤ ordering_index p → comes_first b o ≡ false → is_eq o ≡ false → is_eq p ≡ false
none_after b o Less h e f = refl
none_after b o Greater h e f = refl
none_after b Greater Equal h e f = absurd (omega arith)
none_after b Equal Equal h e f = f
none_after true Less Equal h e f = cc
none_after false Less Equal h e f = cc

met_right : (m a e r : Bool) → (e ≡ false → a ≡ false) → (m || (a || (e || r))) ≡ ((m || e) || r)
met_right true a e r h = refl
met_right false true true r h = refl
met_right false true false r h = let k = h refl in cc
met_right false false e r h = refl

met_left : (m a e r : Bool) → (e ≡ false → r ≡ false) → (m || (a || (e || r))) ≡ ((m || e) || a)
met_left true a e r h = refl
met_left false true true r h = refl
met_left false false true r h = refl
met_left false true false r h = refl
met_left false false false r h = h refl

abbrev number : Bool → ℕ
number b = cond b 1 0

module _ (side : Node → Ordering) (b : Bool) (xs : List Node) (y : Node) (ys : List Node) (p : Parts side xs y ys) where
  split_count : count_by (λ x. comes_first b (side x)) (xs ++ y ∷ ys) ≡ count_by (λ x. comes_first b (side x)) xs + (cond (comes_first b (side y)) 1 0 + count_by (λ x. comes_first b (side x)) ys)
  split_count = count_by-append (λ x. comes_first b (side x)) xs (y ∷ ys) ∙ ap (λ (k : ℕ). count_by (λ x. comes_first b (side x)) xs + k) (count_by-cons (λ x. comes_first b (side x)) y ys)

  -- where the member comes first, so does all before it
  pub count_right : comes_first b (side y) ≡ true → count_by (λ x. comes_first b (side x)) (xs ++ y ∷ ys) ≡ length xs + 1 + count_by (λ x. comes_first b (side x)) ys
  count_right e =
      let all = count_by_all (λ x. comes_first b (side x)) xs (All-map (λ x. Rises side x y) (λ x. comes_first b (side x) ≡ true) (λ x h. first_before b (side x) (side y) h e) xs p.before) in
      let one = ap number e in
      omega (arith, split_count, all, one)

  -- where it does not, nothing after it does
  pub count_left : comes_first b (side y) ≡ false → count_by (λ x. comes_first b (side x)) (xs ++ y ∷ ys) ≡ count_by (λ x. comes_first b (side x)) xs
  count_left e =
      let none = count_by_none (λ x. comes_first b (side x)) ys (All-map (Rises side y) (λ x. comes_first b (side x) ≡ false) (λ x h. last_after b (side y) (side x) h e) ys p.after) in
      let zero = ap number e in
      omega (arith, split_count, none, zero)

  split_any : (m : Bool) → (m || list_any (λ x. is_eq (side x)) (xs ++ y ∷ ys)) ≡ (m || (list_any (λ x. is_eq (side x)) xs || (is_eq (side y) || list_any (λ x. is_eq (side x)) ys)))
  split_any m = ap (λ (z : Bool). m || z) (list_any-append (λ x. is_eq (side x)) xs (y ∷ ys))

  pub any_right : (m : Bool) → comes_first b (side y) ≡ true → (m || list_any (λ x. is_eq (side x)) (xs ++ y ∷ ys)) ≡ ((m || is_eq (side y)) || list_any (λ x. is_eq (side x)) ys)
  any_right m e =
      split_any m
      ∙ met_right m (list_any (λ x. is_eq (side x)) xs) (is_eq (side y)) (list_any (λ x. is_eq (side x)) ys)
      (λ f. any_none (λ x. is_eq (side x)) xs (All-map (λ x. Rises side x y) (λ x. is_eq (side x) ≡ false) (λ x h. none_before b (side x) (side y) h e f) xs p.before))

  pub any_left : (m : Bool) → comes_first b (side y) ≡ false → (m || list_any (λ x. is_eq (side x)) (xs ++ y ∷ ys)) ≡ ((m || is_eq (side y)) || list_any (λ x. is_eq (side x)) xs)
  any_left m e =
      split_any m
      ∙ met_left m (list_any (λ x. is_eq (side x)) xs) (is_eq (side y)) (list_any (λ x. is_eq (side x)) ys)
      (λ f. any_none (λ x. is_eq (side x)) ys (All-map (Rises side y) (λ x. is_eq (side x) ≡ false) (λ x h. none_after b (side y) (side x) h e f) ys p.after))
