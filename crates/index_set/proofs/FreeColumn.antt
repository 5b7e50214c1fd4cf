-- So many numbers are taken by as many things at least.
use Rattle.std.proofs.Common.{◌≡◌, ℕ, zero, suc, ◌+◌, ◌<◌, ◌≤◌, Bool, true, false, cond, not, ◌||◌, ◌==◌, List, [], ◌∷◌, length, refl, ap, ◌∙◌, arith, ⊎_elim}
use Rattle.std.specs.Prelude.{filter}
use Rattle.std.specs.List.{list_any}
use Rattle.std.proofs.lemmas.Bool.{cases_eq}
use Rattle.std.proofs.lemmas.Bool.Decides.{nat_tests}
use Rattle.list_model.proofs.Kept.{length-filter_le}

module _ {X : Type 0} where
  any_by : (p q : X → Bool) (x : X) (xs : List X) (b c : Bool) → p x ≡ b → q x ≡ c → (b ≡ true → c ≡ true) → (b || list_any p xs) ≡ true → (list_any p xs ≡ true → list_any p (filter q xs) ≡ true) → list_any p (cond c (x ∷ filter q xs) (filter q xs)) ≡ true
  any_by p q x xs true true e f g h rest = ap (λ b. b || list_any p (filter q xs)) e
  any_by p q x xs true false e f g h rest = let k = g refl in cc
  any_by p q x xs false true e f g h rest = ap (λ b. b || list_any p (filter q xs)) e ∙ rest h
  any_by p q x xs false false e f g h rest = rest h

  -- a filter keeps what passes it
  any_filter : (p q : X → Bool) → ((x : X) → p x ≡ true → q x ≡ true) → (xs : List X) → list_any p xs ≡ true → list_any p (filter q xs) ≡ true
  any_filter p q keeps [] h = h
  any_filter p q keeps (x ∷ xs) h = any_by p q x xs (p x) (q x) refl refl (keeps x) h (any_filter p q keeps xs)

  less_by : (p q : X → Bool) (x : X) (xs : List X) (b c : Bool) → (b ≡ true → c ≡ false) → (b || list_any p xs) ≡ true → length (filter q xs) ≤ length xs → (list_any p xs ≡ true → length (filter q xs) < length xs) → length (cond c (x ∷ filter q xs) (filter q xs)) < suc (length xs)
  less_by p q x xs true true g h le rest = let k = g refl in cc
  less_by p q x xs true false g h le rest = omega arith
  less_by p q x xs false true g h le rest = let k = rest h in omega arith
  less_by p q x xs false false g h le rest = let k = rest h in omega arith

  -- a filter that stops a member that is there makes the list shorter
  filter_less : (p q : X → Bool) → ((x : X) → p x ≡ true → q x ≡ false) → (xs : List X) → list_any p xs ≡ true → length (filter q xs) < length xs
  filter_less p q stops [] h = cc
  filter_less p q stops (x ∷ xs) h = less_by p q x xs (p x) (q x) (stops x) h (length-filter_le q xs) (filter_less p q stops xs)

  module _ (number : X → ℕ) where
    other_number : (s k m : ℕ) → k < m → (s == k) ≡ true → not (s == m) ≡ true
    other_number s k m lt e = grind (arith, nat_tests)

    pub as_many : (n : ℕ) (xs : List X) → ((k : ℕ) → k < n → list_any (λ x. number x == k) xs ≡ true) → n ≤ length xs
    as_many zero xs h = omega arith
    as_many (suc m) xs h =
        let left : List X = filter (λ x. not (number x == m)) xs in
        let fewer : length left < length xs = filter_less (λ x. number x == m) (λ x. not (number x == m)) (λ x t. ap not t) xs (h m (omega arith)) in
        let rest : m ≤ length left = as_many m left (λ k lt. any_filter (λ x. number x == k) (λ x. not (number x == m)) (λ x t. other_number (number x) k m lt t) xs (h k (omega arith))) in
        omega arith

    -- all below the next one are taken, where all below this one are, and it
    pub taken_next : (k : ℕ) (xs : List X) → ((j : ℕ) → j < k → list_any (λ x. number x == j) xs ≡ true) → list_any (λ x. number x == k) xs ≡ true → (j : ℕ) → j < k + 1 → list_any (λ x. number x == j) xs ≡ true
    taken_next k xs below here j lt = ⊎_elim (λ (e : j ≡ k). ap (λ z. list_any (λ x. number x == z) xs) e ∙ here) (λ ne. below j (omega (arith, lt, ne))) (cases_eq j k)

    -- so the number of things is free, where all below it are taken
    pub free_at_end : (k : ℕ) (xs : List X) → length xs ≤ k → ((j : ℕ) → j < k → list_any (λ x. number x == j) xs ≡ true) → list_any (λ x. number x == k) xs ≡ false
    free_at_end k xs le below = by_test (list_any (λ x. number x == k) xs) refl
      where
        by_test : (b : Bool) → list_any (λ x. number x == k) xs ≡ b → b ≡ false
        by_test true e = let many : k + 1 ≤ length xs = as_many (k + 1) xs (taken_next k xs below e) in absurd (omega (arith, many, le))
        by_test false e = refl
