use Rattle.std.proofs.Common.{◌≡◌, ℕ, ◌<◌, ◌^◌, List, ◌++◌, codes, refl, sym, ap, ◌∙◌}
use Rattle.std.proofs.lemmas.List.{append_cancel_left}
use Rattle.checked_log.specs.Digest.{digest}
use Rattle.checked_log.specs.Hex.{hex_text}
use Rattle.checked_log.specs.Line.{with_digest}
use Rattle.checked_log.proofs.Changed.{digest-lt}
use Rattle.checked_log.proofs.Lines.{same_hex}
use Rattle.checked_log.proofs.signed.signed_rest.Goals as goal

with_digest_is : (c : ℕ) (rest : List ℕ) → with_digest c rest ≡ codes "{\"c\":\"" ++ (hex_text c ++ (codes "\"," ++ rest))
unfolding with_digest
with_digest_is c rest = refl

-- what stands behind the digest
digest_rest : (text rest cov : List ℕ) (d : ℕ) → (d < 2 ^ 64) × (text ≡ codes "{\"c\":\"" ++ (hex_text d ++ rest)) → text ≡ with_digest (digest cov) cov
    → (d ≡ digest cov) × (rest ≡ codes "\"," ++ cov)
digest_rest text rest cov d told is =
    same_hex (codes "{\"c\":\"") d (digest cov) rest (codes "\"," ++ cov) told.0 (digest-lt cov) (sym told.1 ∙ is ∙ with_digest_is (digest cov) cov)

pub returns-in_err-digest : goal.returns-in_err-digest
returns-in_err-digest c =
    rw c.from_residual.ensures (λ cov is. c.in_err-digest.ensures (digest cov) (codes "\"," ++ cov) (digest-lt cov) (is ∙ with_digest_is (digest cov) cov))

pub returns-in_err-covered : goal.returns-in_err-covered
returns-in_err-covered c =
    rw c.from_residual-in_err-covered.ensures
    (λ cov is. c.in_err-covered.ensures cov (digest_rest c.args.text.now c.in_ok-digest.rest.now cov c.in_ok-digest.digest c.in_ok-digest.ensures is).1)

pub returns-then-digest_of-digest : goal.returns-then-digest_of-digest
returns-then-digest_of-digest c =
    let same : c.in_ok-digest.digest ≡ digest c.in_ok-covered.covered.now = sym c.if-digest_of-digest.true ∙ c.digest_of.ensures in (
      same,
      c.in_ok-digest.ensures.1 ∙ ap (λ (l : List ℕ). codes "{\"c\":\"" ++ (hex_text c.in_ok-digest.digest ++ l)) c.in_ok-covered.ensures
          ∙ sym (with_digest_is c.in_ok-digest.digest c.in_ok-covered.covered.now),
    )

pub returns-else-digest_of-digest : goal.returns-else-digest_of-digest
returns-else-digest_of-digest c = λ cov is.
    let parts = digest_rest c.args.text.now c.in_ok-digest.rest.now cov c.in_ok-digest.digest c.in_ok-digest.ensures is in
    let body : c.in_ok-covered.covered.now ≡ cov = append_cancel_left (codes "\",") c.in_ok-covered.covered.now cov (sym c.in_ok-covered.ensures ∙ parts.1) in
    c.if-digest_of-digest.false (c.digest_of.ensures ∙ ap digest body ∙ sym parts.0)
