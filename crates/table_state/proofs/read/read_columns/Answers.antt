use Rattle.std.proofs.Common.{sym, ap, ◌∙◌}
use Rattle.std.proofs.lemmas.Result.{err_from_is_err_and}
use Rattle.command_text.specs.Text.{command_text}
use Rattle.command_text.proofs.Law.{command_text_line}
use Rattle.table_state.specs.State.{columns_command, line_of}
use Rattle.table_state.proofs.ReadingOn.{reads_confirmed}
use Rattle.table_state.proofs.Seeking.{line_is}
use Rattle.table_state.proofs.read.read_columns.Goals as goal

pub returns-in_err-next_line-clause-finds : goal.returns-in_err-next_line-clause-finds
unfolding line_of
returns-in_err-next_line-clause-finds g c = λ bytes rest known fits front.
    let p = err_from_is_err_and c.from_residual.result c.from_residual.ensures.1 in
    let command = columns_command c.args.spec.now in rw (p.1, p.2)
    (c.in_err-next_line.ensures.found (command_text command) bytes rest known (command_text_line command fits) front)

pub returns-clause-finds : goal.returns-clause-finds
unfolding line_of
returns-clause-finds g c = λ bytes rest known fits front.
    let command = columns_command c.args.spec.now in
    let line = c.in_ok-next_line.ensures.found (command_text command) bytes rest known (command_text_line command fits) front in
    c.confirm.ensures.differs (line_is c.next_line.new.self.line.items command line ∙ sym (ap line_of c.in_ok-columns_command.ensures))

pub returns-clause-reads : goal.returns-clause-reads
returns-clause-reads g c = reads_confirmed c.confirm.result c.in_ok-next_line.ensures.reads c.confirm.ensures.kept c.confirm.ensures.not_disk
