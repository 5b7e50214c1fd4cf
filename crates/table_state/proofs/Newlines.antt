-- Bytes before a newline.
use Rattle.std.proofs.Common.{◌≡◌, inl, inr, ◌⊎◌, ℕ, ◌<◌, ◌≤◌, ◌==◌, eqb, true, false, List, length, take, get_or, Some, None, sym, ap, ◌∙◌, arith}
use Rattle.std.proofs.lemmas.Bool.Decides.{eqb_tells}
use Rattle.std.proofs.lemmas.List.{get_or-take, get_or_default, length-take-le}
use Rattle.memchr.specs.Find.{IsFirstByte, is_byte}
use Rattle.command_text.specs.Line.{IsOneLine}

other_byte : (b : ℕ) → ((eqb b 10 ≡ true) × (b ≡ 10)) ⊎ ((eqb b 10 ≡ false) × (b ≡ 10 → ⊥)) → (b ≡ 10 → ⊥) → (b == 10) ≡ false
other_byte b (inl same) other = absurd (other same.1)
other_byte b (inr e) other = e.0

pub no_newline : (b : ℕ) → (b ≡ 10 → ⊥) → (b == 10) ≡ false
no_newline b other = other_byte b (eqb_tells b 10) other

differs : (b : ℕ) → ((eqb b 10 ≡ true) × (b ≡ 10)) ⊎ ((eqb b 10 ≡ false) × (b ≡ 10 → ⊥)) → ((b == 10) ≡ true → ⊥) → (b == 10) ≡ false
differs b (inl same) other = absurd (other same.0)
differs b (inr e) other = e.0

-- where no byte of a front is a newline, it is of one line
front : (n : ℕ) (text : List ℕ) → n ≤ length text → ((k : ℕ) → k < n → (get_or text k 0 == 10) ≡ true → ⊥) → IsOneLine (take n text)
front n text within none k d below =
    let size : length (take n text) ≡ n = length-take-le n text within in
    let low : k < n = omega (arith, size, below) in
    let same : get_or (take n text) k d ≡ get_or text k 0 = get_or-take n text k d low ∙ get_or_default text k d 0 (omega (arith, low, within)) in
    differs (get_or (take n text) k d) (eqb_tells (get_or (take n text) k d) 10) (λ e. none k low (ap (λ b. b == 10) (sym same) ∙ e))

pub line_front : (text : List ℕ) (n : ℕ) → IsFirstByte (is_byte 10) text (Some n) → IsOneLine (take n text)
line_front text n found =
    let high = found.0.high in
    front n text (omega (arith, high)) (λ k below. found.0.before k (omega arith) below)

pub line_whole : (text : List ℕ) → IsFirstByte (is_byte 10) text None → IsOneLine (take (length text) text)
line_whole text none = front (length text) text (omega arith) (λ k below. none k (omega arith) below)
