use Rattle.std.proofs.Common.{◌≡◌, Some, None, sym, ap, ◌∙◌}
use Rattle.std.proofs.lemmas.Result.{err_from_is_err_and}
use Rattle.table_state.specs.State.{line_of, record_command}
use Rattle.table_state.proofs.Said.{entry_said}
use Rattle.table_state.proofs.read.read_record.Goals as goal

pub returns-in_err-command-clause-finds : goal.returns-in_err-command-clause-finds
returns-in_err-command-clause-finds g c = λ entry bytes rest known fits front.
    let p = err_from_is_err_and c.from_residual.result c.from_residual.ensures.1 in rw (p.1, p.2)
    (c.in_err-command.ensures.back (record_command c.args.spec.now entry) bytes rest known fits.line front)

pub returns-in_default-clause-finds : goal.returns-in_default-clause-finds
returns-in_default-clause-finds g c = λ entry bytes rest known fits front.
    let spec = c.args.spec.now in
    let read = c.in_ok-command.ensures.back (record_command spec entry) bytes rest known fits.line front in
    let e : None ≡ Some entry = sym c.in_default.is ∙ c.in_ok-entry.ensures ∙ entry_said spec c.columns.result.now _ c.columns.ensures.value entry fits read.0 in cc

pub returns-in_err-confirm-clause-finds : goal.returns-in_err-confirm-clause-finds
returns-in_err-confirm-clause-finds g c = λ entry bytes rest known fits front.
    let spec = c.args.spec.now in
    let read = c.in_ok-command.ensures.back (record_command spec entry) bytes rest known fits.line front in
    let e : Some c.in-Some.entry ≡ Some entry = sym c.in-Some.is ∙ c.in_ok-entry.ensures ∙ entry_said spec c.columns.result.now _ c.columns.ensures.value entry fits read.0 in
    let same : c.in-Some.entry ≡ entry = cc in
    let command = c.in_ok-record_command.ensures ∙ ap (λ r. record_command spec (record { handle = c.in-Some.entry.handle; row = r })) c.cells.ensures ∙ ap (record_command spec) same in
    let p = err_from_is_err_and c.from_residual-in_err-confirm.result c.from_residual-in_err-confirm.ensures.1 in rw (p.1, p.2)
    (c.in_err-confirm.ensures.differs (read.1 ∙ sym (ap line_of command)))

pub returns-clause-finds : goal.returns-clause-finds
returns-clause-finds g c = λ entry bytes rest known fits front.
    let spec = c.args.spec.now in
    let read = c.in_ok-command.ensures.back (record_command spec entry) bytes rest known fits.line front in
    let e : Some c.in-Some.entry ≡ Some entry = sym c.in-Some.is ∙ c.in_ok-entry.ensures ∙ entry_said spec c.columns.result.now _ c.columns.ensures.value entry fits read.0 in cc
