-- Names, each once.
use Rattle.std.proofs.Common.{◌≡◌, ℕ, zero, suc, ◌<◌, Bool, true, false, not, ◌&&◌, ◌||◌, ◌==◌, List, [], ◌∷◌, length, map, get_or, take, refl, sym, ◌∙◌, arith}
use Rattle.std.specs.Prelude.{bytes_eq, IsUtf8}
use Rattle.std.specs.List.{list_all, list_any}
use Rattle.std.proofs.lemmas.Bool.{and_parts}
use Rattle.std.proofs.lemmas.Bool.Decides.{nat_tests}
use Rattle.std.proofs.lemmas.Slice.Eq.{bytes_eq-Decides}
use Rattle.std.proofs.lemmas.Str.{IsUtf8-from_ascii}
use Rattle.std.proofs.lemmas.Str.Ascii.{IsAscii-from_all}
use Rattle.table_schema.specs.Valid.{are_distinct, are_names, is_name, is_name_byte, is_within}
use Rattle.table_schema.proofs.Facts.{all_at}

pub both : (a b : Bool) → a ≡ true → b ≡ true → (a && b) ≡ true
both a b p q = λ i. p i && q i

neither : (a b : Bool) → (a || b) ≡ false → (a ≡ false) × (b ≡ false)
neither true b h = cc
neither false b h = (refl, h)

pub or_false : (a b : Bool) → a ≡ false → b ≡ false → (a || b) ≡ false
or_false a b p q = λ i. p i || q i

pub not_true : (a : Bool) → not a ≡ true → a ≡ false
not_true true h = cc
not_true false h = refl

unlike : (a b : List ℕ) → bytes_eq a b ≡ false → bytes_eq b a ≡ false
unlike a b h = by_test (bytes_eq b a) refl
  where
    by_test : (c : Bool) → bytes_eq b a ≡ c → c ≡ false
    by_test true e = let same = sym ((bytes_eq-Decides b a).0 e) in let bad = sym ((bytes_eq-Decides a b).1 same) ∙ h in cc
    by_test false e = refl

pub itself : (a : List ℕ) → bytes_eq a a ≡ true
itself a = (bytes_eq-Decides a a).1 refl

small_byte : (b : ℕ) → is_name_byte b ≡ true → b < 128
small_byte b h = grind (arith, nat_tests)

no_dash : (b : ℕ) → is_name_byte b ≡ true → (b == 45) ≡ false
no_dash b h = grind (arith, nat_tests)

-- a name is ASCII
pub name_utf8 : (name : List ℕ) → is_name name ≡ true → IsUtf8 name
name_utf8 name h =
    let bytes = (and_parts (is_within 1 32 (length name)) (list_all is_name_byte name) h).1 in
    IsUtf8-from_ascii name (IsAscii-from_all name (λ k d lt. small_byte (get_or name k d) (all_at is_name_byte name k d bytes lt)))

-- a name has a first byte, and it is no `-`
pub name_first : (name : List ℕ) → is_name name ≡ true → (b : ℕ) × (bs : List ℕ) × (name ≡ b ∷ bs) × ((b == 45) ≡ false)
name_first [] h = cc
name_first (b ∷ bs) h =
    let bytes = (and_parts (is_within 1 32 (length (b ∷ bs))) (list_all is_name_byte (b ∷ bs)) h).1 in
    (b, bs, refl, no_dash b (and_parts (is_name_byte b) (list_all is_name_byte bs) bytes).0)

module _ {X : Type 0} (name : X → List ℕ) where
  none_at : (p : List ℕ → Bool) (xs : List X) (k : ℕ) (d : X) → k < length xs → list_any p (map name xs) ≡ false → p (name (get_or xs k d)) ≡ false
  none_at p [] k d lt h = absurd (omega (arith, lt))
  none_at p (x ∷ xs) zero d lt h = (neither (p (name x)) (list_any p (map name xs)) h).0
  none_at p (x ∷ xs) (suc k) d lt h = none_at p xs k d (omega (arith, lt)) (neither (p (name x)) (list_any p (map name xs)) h).1

  -- a name is not that of an earlier one
  pub other_before : (xs : List X) (k : ℕ) (d : X) → k < length xs → are_distinct bytes_eq (map name xs) ≡ true → (j : ℕ) → j < k → bytes_eq (name (get_or xs j d)) (name (get_or xs k d)) ≡ false
  other_before [] k d lt h j below = absurd (omega (arith, lt))
  other_before (x ∷ xs) zero d lt h j below = absurd (omega (arith, below))
  other_before (x ∷ xs) (suc k) d lt h zero below =
      let parts = and_parts (not (list_any (bytes_eq (name x)) (map name xs))) (are_distinct bytes_eq (map name xs)) h in
      none_at (bytes_eq (name x)) xs k d (omega (arith, lt)) (not_true _ parts.0)
  other_before (x ∷ xs) (suc k) d lt h (suc j) below =
      let parts = and_parts (not (list_any (bytes_eq (name x)) (map name xs))) (are_distinct bytes_eq (map name xs)) h in
      other_before xs k d (omega (arith, lt)) parts.1 j (omega (arith, below))

  none_before : (test : List ℕ) (xs : List X) (k : ℕ) (d : X) → k < length xs → ((j : ℕ) → j < k → bytes_eq (name (get_or xs j d)) test ≡ false) → list_any (bytes_eq test) (map name (take k xs)) ≡ false
  none_before test [] k d lt other = absurd (omega (arith, lt))
  none_before test (x ∷ xs) zero d lt other = refl
  none_before test (x ∷ xs) (suc k) d lt other =
      or_false _ _ (unlike (name x) test (other 0 (omega arith)))
      (none_before test xs k d (omega (arith, lt)) (λ j below. other (suc j) (omega (arith, below))))

  -- so it is new behind the ones before it
  pub new_at : (xs : List X) (k : ℕ) (d : X) → k < length xs → are_names (map name xs) ≡ true → list_any (bytes_eq (name (get_or xs k d))) (map name (take k xs)) ≡ false
  new_at xs k d lt h =
      let parts = and_parts (list_all is_name (map name xs)) (are_distinct bytes_eq (map name xs)) h in
      none_before (name (get_or xs k d)) xs k d lt (other_before xs k d lt parts.1)

  -- each of them is a name
  each_at : (p : List ℕ → Bool) (xs : List X) (k : ℕ) (d : X) → k < length xs → list_all p (map name xs) ≡ true → p (name (get_or xs k d)) ≡ true
  each_at p [] k d lt h = absurd (omega (arith, lt))
  each_at p (x ∷ xs) zero d lt h = (and_parts (p (name x)) (list_all p (map name xs)) h).0
  each_at p (x ∷ xs) (suc k) d lt h = each_at p xs k d (omega (arith, lt)) (and_parts (p (name x)) (list_all p (map name xs)) h).1

  pub name_at : (xs : List X) (k : ℕ) (d : X) → k < length xs → are_names (map name xs) ≡ true → is_name (name (get_or xs k d)) ≡ true
  name_at xs k d lt h = each_at is_name xs k d lt (and_parts (list_all is_name (map name xs)) (are_distinct bytes_eq (map name xs)) h).0
