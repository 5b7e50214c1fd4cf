use Rattle.std.proofs.Common.{◌≡◌, [], ◌∷◌, ◌++◌, length, ap, ◌∙◌, refl}
use Rattle.std.specs.Prelude.{if◌then◌else◌, is_ok}
use Rattle.shared_tables.specs.Writes.{WritesData, answered_in}
use Rattle.shared_tables.specs.declared.writes.Written.{Written}
use Rattle.shared_tables.proofs.Pushed.{pushed}
use Rattle.shared_tables.proofs.writes.Writes.push.Goals as goal

pub returns : goal.returns
returns c =
    let bytes = c.self.inside.answers.items in
    let line = c.args.answer.now in
    let w : Written = record { number = c.args.number; command = c.args.command; start = c.len-start.result; length = length line } in
    let start : c.len-start.result ≡ length bytes = c.len-start.ensures ∙ c.self.inside.answers.ok.0 in
    let longer : c.extend_from_slice.new.self.items ≡ bytes ++ line = c.extend_from_slice.ensures.items ∙ ap (λ r. if is_ok r then bytes ++ line else bytes) c.unwrap.ensures in
    (λ i. answered_in (longer i) (c.push_reserved.ensures.items i))
    ∙ pushed bytes line c.self.inside.rows.items w c.self.invariant start refl
    ∙ ap (λ (d : WritesData). d.items ++ record { number = c.args.number; command = c.args.command.value; answer = line } ∷ []) c.self.view_is
