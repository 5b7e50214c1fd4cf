use Rattle.std.proofs.Common.{◌≡◌, ◌≢◌, List, ℕ, ◌++◌, codes, sym, ap, ◌∙◌}
use Rattle.std.proofs.lemmas.List.{append_cancel_left}
use Rattle.table_folder.proofs.Fronts.{match_option}
use Rattle.table_folder.proofs.framing.digits_in.Goals as goal

pub returns-in_err-digest : goal.returns-in_err-digest
returns-in_err-digest c =
    rw c.from_residual.ensures (λ digits is. c.in_err-digest.ensures (codes ",\"e\":\"" ++ (digits ++ codes "\"}\n")) (is ∙ ap (λ (l : List ℕ). l ++ (codes ",\"e\":\"" ++ (digits ++ codes "\"}\n"))) (sym c.as_bytes.ensures.value)))

-- what stands behind the types
behind_types : (line types bytes digest digits : List ℕ) → bytes ≡ types → line ≡ bytes ++ digest → line ≡ types ++ (codes ",\"e\":\"" ++ (digits ++ codes "\"}\n")) → digest ≡ codes ",\"e\":\"" ++ (digits ++ codes "\"}\n")
behind_types line types bytes digest digits same cut is =
    append_cancel_left types digest (codes ",\"e\":\"" ++ (digits ++ codes "\"}\n")) (ap (λ (l : List ℕ). l ++ digest) (sym same) ∙ sym cut ∙ is)

pub returns-in_err-digits : goal.returns-in_err-digits
returns-in_err-digits c =
    rw c.from_residual-in_err-digits.ensures
    (λ digits is. c.in_err-digits.ensures (digits ++ codes "\"}\n") (behind_types c.args.line.now c.args.types.now c.as_bytes.result.now c.in_ok-digest.digest.now digits c.as_bytes.ensures.value c.in_ok-digest.ensures is))

pub returns : goal.returns
returns c =
    let line = c.args.line.now in
    let types = c.args.types.now in
    match_option c.ahead_of.result ((digits : List ℕ) → c.in_ok-digits.digits.now ≢ digits ++ codes "\"}\n") ((digits : List ℕ) → line ≢ types ++ (codes ",\"e\":\"" ++ (digits ++ codes "\"}\n")))
    (λ digits. c.in_ok-digits.digits.now ≡ digits.now ++ codes "\"}\n") (λ digits. line ≡ types ++ (codes ",\"e\":\"" ++ (digits.now ++ codes "\"}\n")))
    (λ none digits is.
    let here = behind_types line types c.as_bytes.result.now c.in_ok-digest.digest.now digits c.as_bytes.ensures.value c.in_ok-digest.ensures is in
    none digits (append_cancel_left (codes ",\"e\":\"") c.in_ok-digits.digits.now (digits ++ codes "\"}\n") (sym c.in_ok-digits.ensures ∙ here)))
    (λ digits is.
    c.in_ok-digest.ensures ∙ ap (λ (l : List ℕ). l ++ c.in_ok-digest.digest.now) c.as_bytes.ensures.value
    ∙ ap (λ (l : List ℕ). types ++ l) (c.in_ok-digits.ensures ∙ ap (λ (l : List ℕ). codes ",\"e\":\"" ++ l) is))
    c.ahead_of.ensures
