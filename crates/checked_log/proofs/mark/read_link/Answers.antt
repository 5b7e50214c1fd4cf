use Rattle.std.proofs.Common.{◌≡◌, ℕ, ◌<◌, ◌^◌, List, ◌++◌, codes, decimal, refl, sym, ◌∙◌}
use Rattle.std.proofs.lemmas.List.{append_cancel_left}
use Rattle.checked_log.specs.Hex.{hex_text}
use Rattle.checked_log.specs.Mark.{LinkFits, mark_covered}
use Rattle.checked_log.specs.declared.recovery.Link.{Link}
use Rattle.checked_log.proofs.Cuts.{same_ahead}
use Rattle.checked_log.proofs.Lines.{same_hex}
use Rattle.checked_log.proofs.Marking.{behind_link, mark_covered_is}
use Rattle.checked_log.proofs.mark.read_link.Goals as goal

-- what stands behind the members, where the text is that of a mark
first_rest : (text rest : List ℕ) (d : ℕ) (m : Link) → LinkFits m → (d < 2 ^ 64) × (text ≡ codes "\"e\":\"" ++ (hex_text d ++ rest)) → text ≡ mark_covered m
    → (d ≡ m.digest) × (rest ≡ behind_link m)
first_rest text rest d m fits told is =
    same_hex (codes "\"e\":\"") d m.digest rest (behind_link m) told.0 fits.digest (sym told.1 ∙ is ∙ mark_covered_is m)

second_rest : (text rest : List ℕ) (m : Link) → text ≡ codes "\",\"n\":" ++ rest → text ≡ behind_link m → rest ≡ decimal m.number ++ codes "}"
second_rest text rest m told is = append_cancel_left (codes "\",\"n\":") rest (decimal m.number ++ codes "}") (sym told ∙ is)

pub returns-in_err-digest : goal.returns-in_err-digest
returns-in_err-digest c =
    rw c.from_residual.ensures (λ m fits is. c.in_err-digest.ensures m.digest (behind_link m) fits.digest (is ∙ mark_covered_is m))

pub returns-in_err-rest : goal.returns-in_err-rest
returns-in_err-rest c =
    rw c.from_residual-in_err-rest.ensures
    (λ m fits is.
    let a = first_rest c.args.text.now c.in_ok-digest.rest.now c.in_ok-digest.digest m fits c.in_ok-digest.ensures is in
    c.in_err-rest.ensures (decimal m.number ++ codes "}") a.1)

pub returns-in_err-digits : goal.returns-in_err-digits
returns-in_err-digits c =
    rw c.from_residual-in_err-digits.ensures
    (λ m fits is.
    let a = first_rest c.args.text.now c.in_ok-digest.rest.now c.in_ok-digest.digest m fits c.in_ok-digest.ensures is in
    c.in_err-digits.ensures (decimal m.number) (second_rest c.in_ok-digest.rest.now c.in_ok-rest.rest.now m c.in_ok-rest.ensures a.1))

pub returns-in_err-number : goal.returns-in_err-number
returns-in_err-number c =
    rw c.from_residual-in_err-number.ensures
    (λ m fits is.
    let a = first_rest c.args.text.now c.in_ok-digest.rest.now c.in_ok-digest.digest m fits c.in_ok-digest.ensures is in
    let b = second_rest c.in_ok-digest.rest.now c.in_ok-rest.rest.now m c.in_ok-rest.ensures a.1 in
    c.in_err-number.ensures m.number fits.number (same_ahead c.in_ok-digits.digits.now (decimal m.number) (codes "}") (sym c.in_ok-digits.ensures ∙ b)))

pub returns : goal.returns
returns c =
    let number = c.in_ok-number.ensures in
    let digest = c.in_ok-digest.ensures in (
      record { number = number.0; digest = digest.0 },
      rw (mark_covered_is _, digest.1, c.in_ok-rest.ensures, c.in_ok-digits.ensures, number.1) refl,
    )
