use Rattle.std.proofs.Common.{◌≡◌, ℕ, ◌≤◌, List, ◌++◌, length, take, drop, sym, ap, ◌∙◌, arith, length-append, length-take}
use Rattle.std.proofs.lemmas.List.{append_cancel_left, take-append-drop}
use Rattle.checked_log.specs.Hex.{hex_text}
use Rattle.checked_log.proofs.Cuts.{same_parts}
use Rattle.checked_log.proofs.Digits.{length-hex_text}
use Rattle.checked_log.proofs.fields.hex_behind.Goals as goal

pub returns-in_err-left : goal.returns-in_err-left
returns-in_err-left c = rw c.from_residual.ensures (λ n rest fits is. c.in_err-left.ensures (hex_text n ++ rest) is)

-- what stands behind the key, where digits do
digits_behind : (text key left : List ℕ) (n : ℕ) (rest : List ℕ) → text ≡ key ++ left → text ≡ key ++ (hex_text n ++ rest) → left ≡ hex_text n ++ rest
digits_behind text key left n rest e is = append_cancel_left key left (hex_text n ++ rest) (sym e ∙ is)

pub returns-in_err-digits : goal.returns-in_err-digits
returns-in_err-digits c =
    rw c.from_residual-in_err-digits.ensures
    (λ n rest fits is.
    let here = digits_behind c.args.text.now c.args.key.now c.in_ok-left.left.now n rest c.in_ok-left.ensures is in
    let short = c.in_err-digits.ensures.cases in
    let long : 16 ≤ length c.in_ok-left.left.now = omega (arith, ap length here, length-append (hex_text n) rest, length-hex_text n) in
    absurd (omega arith))

pub returns-in_err-number : goal.returns-in_err-number
returns-in_err-number c =
    rw c.from_residual-in_err-number.ensures
    (λ n rest fits is.
    let here = digits_behind c.args.text.now c.args.key.now c.in_ok-left.left.now n rest c.in_ok-left.ensures is in
    let digits = c.in_ok-digits.ensures.cases in
    let parts = same_parts (take 16 c.in_ok-left.left.now) (hex_text n) (drop 16 c.in_ok-left.left.now) rest
    (omega (arith, length-take 16 c.in_ok-left.left.now, ap length here, length-append (hex_text n) rest, length-hex_text n))
    (take-append-drop 16 c.in_ok-left.left.now ∙ here) in
    c.in_err-number.ensures n fits (digits.0 ∙ parts.0))

pub returns : goal.returns
returns c =
    let digits = c.in_ok-digits.ensures.cases in
    let number = c.in_ok-number.ensures in
    let glued : c.in_ok-left.left.now ≡ c.in_ok-digits.digits.now ++ c.in_ok-digits.rest.now = rw (digits.0, digits.1) (sym (take-append-drop 16 c.in_ok-left.left.now)) in (
      number.0,
      c.in_ok-left.ensures
          ∙ ap (λ (l : List ℕ). c.args.key.now ++ l) (glued ∙ ap (λ (l : List ℕ). l ++ c.in_ok-digits.rest.now) number.1),
    )
