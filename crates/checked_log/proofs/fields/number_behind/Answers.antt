use Rattle.std.proofs.Common.{◌≡◌, ℕ, List, ◌∷◌, ◌++◌, decimal, sym, ap, ◌∙◌}
use Rattle.std.proofs.lemmas.List.{append_cancel_left}
use Rattle.checked_log.proofs.Cuts.{decimal_lacks_comma, no_cut, same_cut}
use Rattle.checked_log.proofs.fields.number_behind.Goals as goal

pub returns-in_err-left : goal.returns-in_err-left
returns-in_err-left c = rw c.from_residual.ensures (λ n rest fits is. c.in_err-left.ensures (decimal n ++ (44 ∷ rest)) is)

-- what stands behind the key, where digits and a comma do
digits_behind : (text key left : List ℕ) (n : ℕ) (rest : List ℕ) → text ≡ key ++ left → text ≡ key ++ (decimal n ++ (44 ∷ rest)) → left ≡ decimal n ++ (44 ∷ rest)
digits_behind text key left n rest e is = append_cancel_left key left (decimal n ++ (44 ∷ rest)) (sym e ∙ is)

pub returns-in_err-digits : goal.returns-in_err-digits
returns-in_err-digits c =
    rw c.from_residual-in_err-digits.ensures
    (λ n rest fits is.
    let here = digits_behind c.args.text.now c.args.key.now c.in_ok-left.left.now n rest c.in_ok-left.ensures is in
    no_cut 44 c.in_ok-left.left.now (decimal n) rest c.in_err-digits.ensures here)

pub returns-in_err-number : goal.returns-in_err-number
returns-in_err-number c =
    rw c.from_residual-in_err-number.ensures
    (λ n rest fits is.
    let here = digits_behind c.args.text.now c.args.key.now c.in_ok-left.left.now n rest c.in_ok-left.ensures is in
    let cut = c.in_ok-digits.ensures in
    let parts = same_cut 44 c.in_ok-digits.digits.now (decimal n) c.in_ok-digits.rest.now rest cut.0 (decimal_lacks_comma n fits) (sym cut.1 ∙ here) in
    c.in_err-number.ensures n fits parts.0)

pub returns : goal.returns
returns c =
    let number = c.in_ok-number.ensures in (
      number.0,
      c.in_ok-left.ensures
          ∙ ap (λ (l : List ℕ). c.args.key.now ++ l) (c.in_ok-digits.ensures.1 ∙ ap (λ (l : List ℕ). l ++ (44 ∷ c.in_ok-digits.rest.now)) number.1),
    )
