use Rattle.std.proofs.Common.{sym, ap, ◌∙◌}
use Rattle.std.proofs.lemmas.Result.{err_from_is_err_and}
use Rattle.command_lines.specs.Meaning.{meaning}
use Rattle.command_text.specs.Text.{command_text}
use Rattle.command_text.proofs.Law.{command_text_line}
use Rattle.table_state.specs.State.{line_of}
use Rattle.table_state.proofs.Seeking.{found_text, line_is, means_it, no_command, no_json, same_command}
use Rattle.table_state.proofs.source.Source.next_command.Goals as goal

pub returns-in_err-next_line-clause-back : goal.returns-in_err-next_line-clause-back
unfolding line_of
returns-in_err-next_line-clause-back g c = λ command bytes rest known fits front.
    let p = err_from_is_err_and c.from_residual.result c.from_residual.ensures.1 in rw (p.1, p.2)
    (c.in_err-next_line.ensures.found (command_text command) bytes rest known (command_text_line command fits) front)

pub returns-in-Ok-clause-back : goal.returns-in-Ok-clause-back
returns-in-Ok-clause-back g c = λ command bytes rest known fits front.
    let line = c.next_line.new.self.line.items in
    let is = found_text (g.D.Disk.contents c.args.disk.now) c.args.self.now c.next_line.new.self line c.in_ok-next_line.ensures.one_line c.in_ok-next_line.ensures.takes command bytes rest known fits front in
    (same_command line command c.in-Ok.command (means_it line command fits is) (ap meaning (sym c.deref.ensures.value) ∙ c.in-Ok.ensures.means), line_is line command is)

pub returns-in-Err-Json-clause-back : goal.returns-in-Err-Json-clause-back
returns-in-Err-Json-clause-back g c = λ command bytes rest known fits front.
    let line = c.next_line.new.self.line.items in
    let is = found_text (g.D.Disk.contents c.args.disk.now) c.args.self.now c.next_line.new.self line c.in_ok-next_line.ensures.one_line c.in_ok-next_line.ensures.takes command bytes rest known fits front in
    absurd (no_json c.deref.result.now command _ c.in-Err-Json.ensures.means c.in-Err-Json.field-0-is (ap meaning c.deref.ensures.value ∙ means_it line command fits is))

pub returns-in-Err-Command-clause-back : goal.returns-in-Err-Command-clause-back
returns-in-Err-Command-clause-back g c = λ command bytes rest known fits front.
    let line = c.next_line.new.self.line.items in
    let is = found_text (g.D.Disk.contents c.args.disk.now) c.args.self.now c.next_line.new.self line c.in_ok-next_line.ensures.one_line c.in_ok-next_line.ensures.takes command bytes rest known fits front in
    absurd (no_command c.deref.result.now command _ c.in-Err-Command.ensures.means c.in-Err-Command.field-0-is (ap meaning c.deref.ensures.value ∙ means_it line command fits is))
