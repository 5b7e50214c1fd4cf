use Rattle.std.proofs.Common.{◌≡◌, ◌≢◌, ℕ, List, Option, Some, None, MatchOption, sym, ap, ◌∙◌}
use Rattle.std.specs.Prelude.{option_map}
use Rattle.checked_log.specs.Digest.{digest}
use Rattle.checked_log.specs.Line.{Entry, Fits, IsWellFormed, covered, entry_of, line_digest, line_text, with_digest}
use Rattle.checked_log.specs.Read.{said}
use Rattle.checked_log.specs.declared.line.Line.{Line}
use Rattle.checked_log.proofs.Reading.{entry_of-none, entry_of-well_formed, same_covered}
use Rattle.checked_log.proofs.line.read_line.Goals as goal

pub returns-in_err-digest-clause-entry : goal.returns-in_err-digest-clause-entry
returns-in_err-digest-clause-entry c =
    rw c.from_residual.ensures (sym (entry_of-none c.args.text.now (λ e well. c.in_err-digest.ensures (covered e) well.is_text)))

-- what is read of the rest is what the line says
whole : (text body : List ℕ) (d : ℕ) (r : Option Line) → text ≡ with_digest d body → d ≡ digest body
    → ((e : Entry) → IsWellFormed text e → body ≡ covered e)
    → MatchOption r ((e : Entry) → Fits e → body ≢ covered e) (λ line. Fits (said line) × (body ≡ covered (said line)) × (line.digest ≡ d)) → option_map said r ≡ entry_of text
whole text body d None is digests parts none = sym (entry_of-none text (λ e well. none e well.fits (parts e well)))
whole text body d (Some line) is digests parts told =
    let e = said line in
    let body_is : body ≡ covered e = told.1 in
    let text_is : text ≡ line_text e = is ∙ ap (λ (n : ℕ). with_digest n body) (digests ∙ ap digest body_is) ∙ ap (with_digest (line_digest e)) body_is in
    sym (entry_of-well_formed text e (record { fits = told.0; is_text = text_is }))

pub returns-clause-entry : goal.returns-clause-entry
returns-clause-entry c =
    let signed = c.in_ok-digest.ensures in
    whole c.args.text.now c.in_ok-digest.covered.now c.in_ok-digest.digest c.read_covered.result signed.1 signed.0
    (λ e well. same_covered c.args.text.now c.in_ok-digest.covered.now c.in_ok-digest.digest e signed.1 well)
    c.read_covered.ensures
