use Rattle.std.proofs.Common.{rules, ◌≡◌, ℕ, List, ◌∷◌, ◌++◌, [], length, ap, ◌∙◌}
use Rattle.checked_log.proofs.Written.{mark_pieces, signed, signed_part, unsigned, written_over}
use Rattle.checked_log.specs.Digest.{digest}
use Rattle.checked_log.specs.Line.{with_digest}
use Rattle.checked_log.specs.Mark.{mark_covered}
use Rattle.checked_log.proofs.mark.push_mark.Goals as goal

pub returns-clause-all : goal.returns-clause-all
returns-clause-all c =
    let m = c.args.link in
    let pieces = mark_pieces m _ _ c.hex_of-digest.ensures (c.as_bytes.ensures.value ∙ c.format.ensures.text) in
    let old = c.args.text.now.items in
    let items = c.push_all.new.text.items in
    let is : items ≡ old ++ unsigned (mark_covered m ++ (10 ∷ [])) = c.in_ok-push_all.ensures.all ∙ ap (λ (l : List ℕ). old ++ l) pieces in
    let value : c.deref_mut.result.now ≡ items = c.deref_mut.ensures.value in
    let start : c.len-start.result ≡ length old = search rules in
    let sign = c.sign.ensures in
    let same : length c.sign.new.bytes ≡ length c.deref_mut.result.now = c.sign.auto.bytes in
    let long : length c.sign.new.bytes ≡ length items = same ∙ ap length value in
    let count : c.push_all.new.text.len ≡ length items = search rules in
    let made = written_over c.push_all.new.text.len c.sign.new.bytes items long count in
    let told : c.sign.result ≡ digest (mark_covered m) = sign.digest ∙ ap digest (signed_part c.deref_mut.result.now old (mark_covered m) c.len-start.result start (value ∙ is)) in
    made ∙ sign.bytes ∙ signed c.deref_mut.result.now old (mark_covered m) c.len-start.result c.sign.result start (value ∙ is)
    ∙ ap (λ (n : ℕ). old ++ (with_digest n (mark_covered m) ++ (10 ∷ []))) told
