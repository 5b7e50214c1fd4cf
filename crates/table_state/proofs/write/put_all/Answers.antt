use Rattle.std.proofs.lemmas.Result.{err_from_is_err_and}
use Rattle.table_state.proofs.Putting.{fails_second, fails_within, putting_both}
use Rattle.table_state.proofs.write.put_all.Goals as goal

pub returns-in_err-put_head-clause-puts : goal.returns-in_err-put_head-clause-puts
returns-in_err-put_head-clause-puts g c =
    let p = err_from_is_err_and c.from_residual.result c.from_residual.ensures.1 in rw (p.1, p.2)
    (fails_within _ _ _ _ _ c.in_err-put_head.ensures.puts)

pub returns-in_err-put_indices-clause-puts : goal.returns-in_err-put_indices-clause-puts
returns-in_err-put_indices-clause-puts g c =
    let p = err_from_is_err_and c.from_residual-in_err-put_indices.result c.from_residual-in_err-put_indices.ensures.1 in rw (p.1, p.2)
    (fails_second _ _ _ c.in_ok-put_head.ensures.puts _ _ _ (fails_within _ _ _ _ _ c.in_err-put_indices.ensures.puts))

pub returns-in_err-put_records-clause-puts : goal.returns-in_err-put_records-clause-puts
returns-in_err-put_records-clause-puts g c =
    let p = err_from_is_err_and c.from_residual-in_err-put_records.result c.from_residual-in_err-put_records.ensures.1 in rw (p.1, p.2)
    (fails_second _ _ _ c.in_ok-put_head.ensures.puts _ _ _
    (fails_second _ _ _ c.in_ok-put_indices.ensures.puts _ _ _ (fails_within _ _ _ _ _ c.in_err-put_records.ensures.puts)))

pub returns-clause-puts : goal.returns-clause-puts
returns-clause-puts g c =
    putting_both _ _ _ c.in_ok-put_head.ensures.puts _ _ c.put_orders.result
    (putting_both _ _ _ c.in_ok-put_indices.ensures.puts _ _ c.put_orders.result
    (putting_both _ _ _ c.in_ok-put_records.ensures.puts _ _ c.put_orders.result c.put_orders.ensures.puts))
