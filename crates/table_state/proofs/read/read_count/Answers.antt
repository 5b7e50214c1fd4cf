use Rattle.std.proofs.lemmas.Result.{err_from_is_err_and}
use Rattle.table_state.specs.State.{count_command}
use Rattle.table_state.proofs.read.read_count.Goals as goal

pub returns-in_err-command-clause-finds : goal.returns-in_err-command-clause-finds
returns-in_err-command-clause-finds g c = λ count bytes rest known fits front.
    let p = err_from_is_err_and c.from_residual.result c.from_residual.ensures.1 in rw (p.1, p.2)
    (c.in_err-command.ensures.back (count_command c.args.spec.now c.args.name.now count) bytes rest known fits front)
