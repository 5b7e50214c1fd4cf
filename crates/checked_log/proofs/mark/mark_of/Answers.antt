use Rattle.std.proofs.Common.{◌≡◌, ◌≢◌, ℕ, List, Option, Some, None, MatchOption, sym, ap, ◌∙◌}
use Rattle.checked_log.specs.Digest.{digest}
use Rattle.checked_log.specs.Line.{with_digest}
use Rattle.checked_log.specs.Mark.{LinkFits, mark_covered, mark_of}
use Rattle.checked_log.specs.declared.recovery.Link.{Link}
use Rattle.checked_log.proofs.Marking.{mark_of-none, mark_of-text, same_mark_covered}
use Rattle.checked_log.proofs.mark.mark_of.Goals as goal

pub returns-in_err-covered : goal.returns-in_err-covered
returns-in_err-covered c =
    rw c.from_residual.ensures (sym (mark_of-none c.args.text.now (λ m fits is. c.in_err-covered.ensures (mark_covered m) is)))

-- what is read of the rest is what the slot says
whole : (text body : List ℕ) (d : ℕ) (r : Option Link) → text ≡ with_digest d body → d ≡ digest body
    → MatchOption r ((m : Link) → LinkFits m → body ≢ mark_covered m) (λ m. LinkFits m × (body ≡ mark_covered m)) → r ≡ mark_of text
whole text body d None is digests none = sym (mark_of-none text (λ m fits said. none m fits (same_mark_covered text body d m is said)))
whole text body d (Some m) is digests told =
    let body_is : body ≡ mark_covered m = told.1 in
    sym (mark_of-text text m told.0 (is ∙ ap (λ (n : ℕ). with_digest n body) (digests ∙ ap digest body_is) ∙ ap (with_digest (digest (mark_covered m))) body_is))

pub returns : goal.returns
returns c = let signed = c.in_ok-covered.ensures in whole c.args.text.now c.in_ok-covered.covered.now _ c.read_link.result signed.1 signed.0 c.read_link.ensures
