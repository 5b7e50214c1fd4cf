use Rattle.std.proofs.Common.{◌≡◌, Some, sym, ap, ◌∙◌}
use Rattle.std.proofs.lemmas.Result.{err_from_is_err_and}
use Rattle.table_state.specs.State.{index_command, line_of}
use Rattle.table_state.proofs.Said.{index_said}
use Rattle.table_state.proofs.read.read_index.Goals as goal

pub returns-in_err-command-clause-finds : goal.returns-in_err-command-clause-finds
returns-in_err-command-clause-finds g c = λ index bytes rest known fits front.
    let p = err_from_is_err_and c.from_residual.result c.from_residual.ensures.1 in rw (p.1, p.2)
    (c.in_err-command.ensures.back (index_command c.args.spec.now index) bytes rest known fits.line front)

pub returns-in_err-confirm-in-Ok-clause-finds : goal.returns-in_err-confirm-in-Ok-clause-finds
returns-in_err-confirm-in-Ok-clause-finds g c = λ index bytes rest known fits front.
    let spec = c.args.spec.now in
    let read = c.in_ok-command.ensures.back (index_command spec index) bytes rest known fits.line front in
    let said = index_said spec c.columns.result.now _ c.columns.ensures.value c.args.indices.now index fits read.0 in
    let same : c.in-Ok.defined ≡ index = let e : Some c.in-Ok.defined ≡ Some index = sym c.in-Ok.ensures.defined ∙ said in cc in
    let p = err_from_is_err_and c.from_residual-in_err-confirm-in-Ok.result c.from_residual-in_err-confirm-in-Ok.ensures.1 in rw (p.1, p.2)
    (c.in_err-confirm-in-Ok.ensures.differs (read.1 ∙ ap (λ i. line_of (index_command spec i)) (sym same) ∙ sym (ap line_of c.in_ok-index_command-in-Ok.ensures)))
