use Rattle.std.proofs.Common.{◌≡◌, ◌++◌, sym, ap, ◌∙◌}
use Rattle.std.specs.Cmp.Lexicographic.{other_text, same_text}
use Rattle.command_text.specs.Text.{command_text}
use Rattle.table_state.proofs.Seeking.{is_text, line_is}
use Rattle.table_state.proofs.source.Source.confirm.Goals as goal

pub returns-then-eq-clause-same : goal.returns-then-eq-clause-same
returns-then-eq-clause-same c =
    let command = c.args.command in
    let text : c.bytes.result.now ≡ command_text command = c.bytes.ensures.bytes ∙ c.in_ok-written.ensures.0 ∙ ap (λ xs. xs ++ command_text command) c.clear.ensures.bytes in
    line_is c.args.self.now.line.items command (sym c.as_slice.ensures.value ∙ sym (same_text _ _ c.if-eq.ensures) ∙ text)

pub returns-else-eq-clause-differs : goal.returns-else-eq-clause-differs
returns-else-eq-clause-differs c = λ same.
    let command = c.args.command in
    let text : c.bytes.result.now ≡ command_text command = c.bytes.ensures.bytes ∙ c.in_ok-written.ensures.0 ∙ ap (λ xs. xs ++ command_text command) c.clear.ensures.bytes in
    absurd (other_text _ _ c.if-eq.ensures (text ∙ sym (is_text c.args.self.now.line.items command same) ∙ sym c.as_slice.ensures.value))
