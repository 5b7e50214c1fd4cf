-- Lines, and what stands behind them.
use Rattle.std.proofs.Common.{◌≡◌, ℕ, suc, ◌==◌, false, List, [], ◌∷◌, ◌++◌, refl, sym, subst, arith}
use Rattle.std.proofs.lemmas.List.{append_cancel_left}
use Rattle.command_text.specs.Line.{IsOneLine}

abbrev IsWithin : ℕ → Type 0
IsWithin b = (b == 10) ≡ false

first_of_line : (b : ℕ) (bs : List ℕ) → IsOneLine (b ∷ bs) → (b == 10) ≡ false
first_of_line b bs one = one 0 b (omega arith)

rest_of_line : (b : ℕ) (bs : List ℕ) → IsOneLine (b ∷ bs) → IsOneLine bs
rest_of_line b bs one = λ k d lt. one (suc k) d (omega arith)

not_ten : (b : ℕ) → (b == 10) ≡ false → 10 ≡ b → ⊥
not_ten b other is = let e : (10 == 10) ≡ false = subst IsWithin (sym is) other in cc

-- where two lines end
pub same_line : (a b xs ys : List ℕ) → IsOneLine a → IsOneLine b → a ++ 10 ∷ xs ≡ b ++ 10 ∷ ys → a ≡ b
same_line [] [] xs ys one two e = refl
same_line [] (y ∷ b) xs ys one two e = let is : 10 ≡ y = cc in absurd (not_ten y (first_of_line y b two) is)
same_line (x ∷ a) [] xs ys one two e = let is : 10 ≡ x = cc in absurd (not_ten x (first_of_line x a one) is)
same_line (x ∷ a) (y ∷ b) xs ys one two e =
    let head : x ≡ y = cc in
    let tail : a ++ 10 ∷ xs ≡ b ++ 10 ∷ ys = cc in
    let same : a ≡ b = same_line a b xs ys (rest_of_line x a one) (rest_of_line y b two) tail in
    cc

-- a text with a newline is not of one line
pub no_line : (a xs : List ℕ) → IsOneLine (a ++ 10 ∷ xs) → ⊥
no_line [] xs one = let e : (10 == 10) ≡ false = first_of_line 10 xs one in cc
no_line (x ∷ a) xs one = no_line a xs (rest_of_line x (a ++ 10 ∷ xs) one)

-- what stands behind the same text
pub same_rest : (text rest left : List ℕ) → text ++ rest ≡ text ++ left → left ≡ rest
same_rest text rest left e = sym (append_cancel_left text rest left e)
