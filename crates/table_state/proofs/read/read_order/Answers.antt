use Rattle.std.proofs.Common.{◌≡◌, Some, None, sym, ap, ◌∙◌}
use Rattle.std.specs.Prelude.{option_map}
use Rattle.std.proofs.lemmas.Result.{err_from_is_err_and}
use Rattle.table_state.specs.State.{line_of, order_command}
use Rattle.table_state.proofs.Said.{order_said}
use Rattle.table_state.proofs.read.read_order.Goals as goal

pub returns-in_err-command-clause-finds : goal.returns-in_err-command-clause-finds
returns-in_err-command-clause-finds g c = λ handles bytes rest known fits front.
    let p = err_from_is_err_and c.from_residual.result c.from_residual.ensures.1 in rw (p.1, p.2)
    (c.in_err-command.ensures.back (order_command c.args.spec.now c.args.index.now handles) bytes rest known fits front)

pub returns-in_default-clause-finds : goal.returns-in_default-clause-finds
returns-in_default-clause-finds g c = λ handles bytes rest known fits front.
    let spec = c.args.spec.now in
    let read = c.in_ok-command.ensures.back (order_command spec c.args.index.now handles) bytes rest known fits front in
    let found = c.in_ok-handles.ensures ∙ order_said spec c.args.index.now handles _ read.0 in
    let e : None ≡ Some handles = sym (ap (option_map (λ list. list.items)) c.in_default.is) ∙ found in cc

pub returns-in_err-confirm-clause-finds : goal.returns-in_err-confirm-clause-finds
returns-in_err-confirm-clause-finds g c = λ handles bytes rest known fits front.
    let spec = c.args.spec.now in
    let read = c.in_ok-command.ensures.back (order_command spec c.args.index.now handles) bytes rest known fits front in
    let found = c.in_ok-handles.ensures ∙ order_said spec c.args.index.now handles _ read.0 in
    let same : c.in-Some.handles.items ≡ handles = let e : Some c.in-Some.handles.items ≡ Some handles = sym (ap (option_map (λ list. list.items)) c.in-Some.is) ∙ found in cc in
    let command = c.in_ok-order_command.ensures ∙ ap (order_command spec c.args.index.now) (c.deref.ensures.value ∙ same) in
    let p = err_from_is_err_and c.from_residual-in_err-confirm.result c.from_residual-in_err-confirm.ensures.1 in rw (p.1, p.2)
    (c.in_err-confirm.ensures.differs (read.1 ∙ sym (ap line_of command)))

pub returns-clause-finds : goal.returns-clause-finds
returns-clause-finds g c = λ handles bytes rest known fits front.
    let spec = c.args.spec.now in
    let read = c.in_ok-command.ensures.back (order_command spec c.args.index.now handles) bytes rest known fits front in
    let found = c.in_ok-handles.ensures ∙ order_said spec c.args.index.now handles _ read.0 in
    let e : Some c.in-Some.handles.items ≡ Some handles = sym (ap (option_map (λ list. list.items)) c.in-Some.is) ∙ found in cc
