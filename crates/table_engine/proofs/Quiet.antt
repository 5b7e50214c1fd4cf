-- Bytes among which is no newline, and a line with its newline.
use Rattle.std.proofs.Common.{◌≡◌, inl, inr, ◌⊎◌, ℕ, zero, suc, ◌<◌, ◌==◌, eqb, true, false, List, [], ◌∷◌, ◌++◌, length, take, drop, get_or, Some, None, sym, ap, ◌∙◌, arith}
use Rattle.std.proofs.lemmas.Bool.Decides.{eqb_tells}
use Rattle.std.proofs.lemmas.List.{get_or-take, length-take-le}
use Rattle.memchr.specs.Find.{IsFirstByte, is_byte}

-- no byte is a newline
abbrev pub IsQuiet : List ℕ → Type 0
IsQuiet bytes = (k : ℕ) → k < length bytes → (get_or bytes k 0 == 10) ≡ false

differs : (b : ℕ) → ((eqb b 10 ≡ true) × (b ≡ 10)) ⊎ ((eqb b 10 ≡ false) × (b ≡ 10 → ⊥)) → ((b == 10) ≡ true → ⊥) → (b == 10) ≡ false
differs b (inl same) other = absurd (other same.0)
differs b (inr e) other = e.0

pub no_newline : (b : ℕ) → ((b == 10) ≡ true → ⊥) → (b == 10) ≡ false
no_newline b other = differs b (eqb_tells b 10) other

-- ---- the first newline

same_byte : (b : ℕ) → ((eqb b 10 ≡ true) × (b ≡ 10)) ⊎ ((eqb b 10 ≡ false) × (b ≡ 10 → ⊥)) → (b == 10) ≡ true → b ≡ 10
same_byte b (inl same) e = same.1
same_byte b (inr other) e = let bad : true ≡ false = sym e ∙ other.0 in cc

pub is_newline : (rest : List ℕ) (n : ℕ) → IsFirstByte (is_byte 10) rest (Some n) → get_or rest n 0 ≡ 10
is_newline rest n found = same_byte (get_or rest n 0) (eqb_tells (get_or rest n 0) 10) found.1

pub quiet_front : (rest : List ℕ) (n : ℕ) → IsFirstByte (is_byte 10) rest (Some n) → IsQuiet (take n rest)
quiet_front rest n found k below =
    let high = found.0.high in
    let size : length (take n rest) ≡ n = length-take-le n rest (omega arith) in
    let low : k < n = omega arith in
    no_newline (get_or (take n rest) k 0) (λ e. found.0.before k (omega arith) low (ap (λ b. b == 10) (sym (get_or-take n rest k 0 low)) ∙ e))

pub quiet_whole : (rest : List ℕ) → IsFirstByte (is_byte 10) rest None → IsQuiet rest
quiet_whole rest none k below = no_newline (get_or rest k 0) (λ e. none k (omega arith) below e)

-- a line with its newline and what stands behind both are the whole
pub line_of_rest : (n : ℕ) (rest behind : List ℕ) → n < length rest → get_or rest n 0 ≡ 10 → behind ≡ drop 1 (drop n rest) → take n rest ++ 10 ∷ behind ≡ rest
line_of_rest n [] behind within is e = absurd (omega (arith, within))
line_of_rest zero (b ∷ bs) behind within is e = ap (λ x. x ∷ behind) (sym is) ∙ ap (λ xs. b ∷ xs) e
line_of_rest (suc n) (b ∷ bs) behind within is e = ap (λ xs. b ∷ xs) (line_of_rest n bs behind (omega (arith, within)) is e)
