use Rattle.std.proofs.Common.{rules, ◌≡◌, ℕ, List, ◌∷◌, ◌++◌, [], length, ap, ◌∙◌}
use Rattle.checked_log.proofs.Written.{pieces_are, signed, signed_part, unsigned, written_over}
use Rattle.checked_log.specs.Digest.{digest}
use Rattle.checked_log.specs.Line.{covered, entry, with_digest}
use Rattle.checked_log.proofs.write.push_line.Goals as goal

pub returns-clause-all : goal.returns-clause-all
returns-clause-all c =
    let e = entry c.args.durable c.args.number c.args.before c.args.write.now in
    let pieces = pieces_are e _ _ _ (c.as_bytes.ensures.value ∙ c.format.ensures.text) (c.as_bytes-2.ensures.value ∙ c.format-2.ensures.text) c.hex_of-before_digits.ensures in
    let old = c.args.text.now.items in
    let items = c.push_all.new.text.items in
    let is : items ≡ old ++ unsigned (covered e ++ (10 ∷ [])) = c.in_ok-push_all.ensures.all ∙ ap (λ (l : List ℕ). old ++ l) pieces in
    let value : c.deref_mut.result.now ≡ items = c.deref_mut.ensures.value in
    let start : c.len-start.result ≡ length old = search rules in
    let sign = c.sign.ensures in
    let same : length c.sign.new.bytes ≡ length c.deref_mut.result.now = c.sign.auto.bytes in
    let long : length c.sign.new.bytes ≡ length items = same ∙ ap length value in
    let count : c.push_all.new.text.len ≡ length items = search rules in
    let made = written_over c.push_all.new.text.len c.sign.new.bytes items long count in
    let told : c.sign.result ≡ digest (covered e) = sign.digest ∙ ap digest (signed_part c.deref_mut.result.now old (covered e) c.len-start.result start (value ∙ is)) in (
      told,
      made ∙ sign.bytes ∙ signed c.deref_mut.result.now old (covered e) c.len-start.result c.sign.result start (value ∙ is)
          ∙ ap (λ (n : ℕ). old ++ (with_digest n (covered e) ++ (10 ∷ []))) told,
    )
