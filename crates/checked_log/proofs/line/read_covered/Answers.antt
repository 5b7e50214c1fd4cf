use Rattle.std.proofs.Common.{◌≡◌, ℕ, ◌<◌, ◌^◌, List, ◌∷◌, ◌++◌, codes, decimal, false, true, refl, sym, ap, ◌∙◌, arith}
use Rattle.std.proofs.lemmas.Bool.{false≢true}
use Rattle.std.proofs.lemmas.List.{append_cancel_left}
use Rattle.checked_log.specs.Hex.{hex_text}
use Rattle.checked_log.specs.Line.{Entry, Fits, covered, is_plain}
use Rattle.checked_log.proofs.Lines.{behind_before, behind_durable, behind_number, covered_is, same_hex, same_number}
use Rattle.checked_log.proofs.Cuts.{same_ahead}
use Rattle.checked_log.proofs.line.read_covered.Goals as goal
use Rattle.checked_log.proofs.line.read_covered.Goals.{else-durable-number-via-then-durable-number+else-is_plain, else-durable-number-via-else-durable-number}

-- what stands behind the members, where the text is that of an entry
first_rest : (text rest : List ℕ) (d : ℕ) (e : Entry) → Fits e → (d < 2 ^ 64) × (text ≡ codes "\"d\":" ++ (decimal d ++ (44 ∷ rest))) → text ≡ covered e
    → (d ≡ e.durable) × (rest ≡ behind_durable e)
first_rest text rest d e fits told is =
    same_number (codes "\"d\":") d e.durable rest (behind_durable e) told.0 (omega (arith, fits.durable, fits.number)) (sym told.1 ∙ is ∙ covered_is e)

second_rest : (text rest : List ℕ) (n : ℕ) (e : Entry) → Fits e → (n < 2 ^ 64) × (text ≡ codes "\"n\":" ++ (decimal n ++ (44 ∷ rest))) → text ≡ behind_durable e
    → (n ≡ e.number) × (rest ≡ behind_number e)
second_rest text rest n e fits told is = same_number (codes "\"n\":") n e.number rest (behind_number e) told.0 fits.number (sym told.1 ∙ is)

third_rest : (text rest : List ℕ) (p : ℕ) (e : Entry) → Fits e → (p < 2 ^ 64) × (text ≡ codes "\"p\":\"" ++ (hex_text p ++ rest)) → text ≡ behind_number e
    → (p ≡ e.before) × (rest ≡ behind_before e)
third_rest text rest p e fits told is = same_hex (codes "\"p\":\"") p e.before rest (behind_before e) told.0 fits.before (sym told.1 ∙ is)

fourth_rest : (text rest : List ℕ) (e : Entry) → text ≡ codes "\",\"w\":" ++ rest → text ≡ behind_before e → rest ≡ e.write ++ codes "}"
fourth_rest text rest e told is = append_cancel_left (codes "\",\"w\":") rest (e.write ++ codes "}") (sym told ∙ is)

pub returns-in_err-durable : goal.returns-in_err-durable
returns-in_err-durable c =
    rw c.from_residual.ensures
    (λ e fits is. c.in_err-durable.ensures e.durable (behind_durable e) (omega (arith, fits.durable, fits.number)) (is ∙ covered_is e))

pub returns-in_err-number : goal.returns-in_err-number
returns-in_err-number c =
    rw c.from_residual-in_err-number.ensures
    (λ e fits is.
    let a = first_rest c.args.text.now c.in_ok-durable.rest.now c.in_ok-durable.durable e fits c.in_ok-durable.ensures is in
    c.in_err-number.ensures e.number (behind_number e) fits.number a.1)

pub returns-in_err-before : goal.returns-in_err-before
returns-in_err-before c =
    rw c.from_residual-in_err-before.ensures
    (λ e fits is.
    let a = first_rest c.args.text.now c.in_ok-durable.rest.now c.in_ok-durable.durable e fits c.in_ok-durable.ensures is in
    let b = second_rest c.in_ok-durable.rest.now c.in_ok-number.rest.now c.in_ok-number.number e fits c.in_ok-number.ensures a.1 in
    c.in_err-before.ensures e.before (behind_before e) fits.before b.1)

pub returns-in_err-rest : goal.returns-in_err-rest
returns-in_err-rest c =
    rw c.from_residual-in_err-rest.ensures
    (λ e fits is.
    let a = first_rest c.args.text.now c.in_ok-durable.rest.now c.in_ok-durable.durable e fits c.in_ok-durable.ensures is in
    let b = second_rest c.in_ok-durable.rest.now c.in_ok-number.rest.now c.in_ok-number.number e fits c.in_ok-number.ensures a.1 in
    let p = third_rest c.in_ok-number.rest.now c.in_ok-before.rest.now c.in_ok-before.before e fits c.in_ok-before.ensures b.1 in
    c.in_err-rest.ensures (e.write ++ codes "}") p.1)

pub returns-in_err-write : goal.returns-in_err-write
returns-in_err-write c =
    rw c.from_residual-in_err-write.ensures
    (λ e fits is.
    let a = first_rest c.args.text.now c.in_ok-durable.rest.now c.in_ok-durable.durable e fits c.in_ok-durable.ensures is in
    let b = second_rest c.in_ok-durable.rest.now c.in_ok-number.rest.now c.in_ok-number.number e fits c.in_ok-number.ensures a.1 in
    let p = third_rest c.in_ok-number.rest.now c.in_ok-before.rest.now c.in_ok-before.before e fits c.in_ok-before.ensures b.1 in
    c.in_err-write.ensures e.write (fourth_rest c.in_ok-before.rest.now c.in_ok-rest.rest.now e c.in_ok-rest.ensures p.1))

pub returns-then-is_plain : goal.returns-then-is_plain
returns-then-is_plain c =
    let text : c.args.text.now ≡ covered (record { durable = c.in_ok-durable.durable; number = c.in_ok-number.number; before = c.in_ok-before.before; write = c.in_ok-write.write.now }) =
    rw (covered_is _, c.in_ok-durable.ensures.1, c.in_ok-number.ensures.1, c.in_ok-before.ensures.1, c.in_ok-rest.ensures, c.in_ok-write.ensures) refl in (
      record {
        durable = omega arith;
        number = c.in_ok-number.ensures.0;
        before = c.in_ok-before.ensures.0;
        write = sym c.if-is_plain.ensures;
      },
      text,
      refl,
    )

pub returns-else-durable-number : goal.returns-else-durable-number
returns-else-durable-number c = λ e fits is.
    let a = first_rest c.args.text.now c.in_ok-durable.rest.now c.in_ok-durable.durable e fits c.in_ok-durable.ensures is in
    let b = second_rest c.in_ok-durable.rest.now c.in_ok-number.rest.now c.in_ok-number.number e fits c.in_ok-number.ensures a.1 in
    let p = third_rest c.in_ok-number.rest.now c.in_ok-before.rest.now c.in_ok-before.before e fits c.in_ok-before.ensures b.1 in
    let last = fourth_rest c.in_ok-before.rest.now c.in_ok-rest.rest.now e c.in_ok-rest.ensures p.1 in
    let write : c.in_ok-write.write.now ≡ e.write = same_ahead c.in_ok-write.write.now e.write (codes "}") (sym c.in_ok-write.ensures ∙ last) in
    elim c.else-durable-number.branch [
      | else-durable-number-via-then-durable-number+else-is_plain w ↦
          let told : false ≡ is_plain c.in_ok-write.write.now = w.if-is_plain.ensures in
          let plain : is_plain c.in_ok-write.write.now ≡ true = ap is_plain write ∙ fits.write in
          absurd (false≢true (told ∙ plain))
      | else-durable-number-via-else-durable-number w ↦
          let durable = a.0 in let number = b.0 in let below = fits.durable in let not = w.if-durable-number.false in omega arith
    ]
