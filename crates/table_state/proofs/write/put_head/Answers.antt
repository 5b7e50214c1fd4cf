use Rattle.std.proofs.lemmas.Result.{err_from_is_err_and}
use Rattle.std.proofs.Common.{◌≡◌, length, ap, ◌∙◌, codes}
use Rattle.table_state.specs.State.{columns_command, count_command, line_of}
use Rattle.table_state.proofs.Putting.{fails_as, fails_second, fails_within, putting_as, putting_both, putting_end, puts_as}
use Rattle.table_state.proofs.write.put_head.Goals as goal

pub returns-in_err-put_count-clause-puts : goal.returns-in_err-put_count-clause-puts
returns-in_err-put_count-clause-puts g c =
    let shape = c.args.table.now.shape in
    let spec : c.spec-spec.result.now ≡ shape = c.spec-spec.ensures ∙ ap (λ t. t.shape) c.records.ensures in
    let w : line_of (count_command c.spec-spec.result.now (codes "writes") c.writes.result) ≡ line_of (count_command shape (codes "writes") c.args.table.now.records.writes) = cc in
    let p = err_from_is_err_and c.from_residual.result c.from_residual.ensures.1 in rw (p.1, p.2)
    (fails_within _ _ _ _ _ (fails_as _ _ _ _ _ w c.in_err-put_count.ensures.puts))

pub returns-in_err-put_count-2-clause-puts : goal.returns-in_err-put_count-2-clause-puts
returns-in_err-put_count-2-clause-puts g c =
    let shape = c.args.table.now.shape in
    let spec : c.spec-spec.result.now ≡ shape = c.spec-spec.ensures ∙ ap (λ t. t.shape) c.records.ensures in
    let w : line_of (count_command c.spec-spec.result.now (codes "writes") c.writes.result) ≡ line_of (count_command shape (codes "writes") c.args.table.now.records.writes) = cc in
    let i : line_of (count_command c.spec-spec.result.now (codes "indices") (length c.indices.result.now)) ≡ line_of (count_command shape (codes "indices") (length shape.indices)) = cc in
    let p = err_from_is_err_and c.from_residual-in_err-put_count-2.result c.from_residual-in_err-put_count-2.ensures.1 in rw (p.1, p.2)
    (fails_second _ _ _ (puts_as _ _ _ _ w c.in_ok-put_count.ensures.puts) _ _ _ (fails_within _ _ _ _ _ (fails_as _ _ _ _ _ i c.in_err-put_count-2.ensures.puts)))

pub returns-in_err-put_count-3-clause-puts : goal.returns-in_err-put_count-3-clause-puts
returns-in_err-put_count-3-clause-puts g c =
    let shape = c.args.table.now.shape in
    let spec : c.spec-spec.result.now ≡ shape = c.spec-spec.ensures ∙ ap (λ t. t.shape) c.records.ensures in
    let w : line_of (count_command c.spec-spec.result.now (codes "writes") c.writes.result) ≡ line_of (count_command shape (codes "writes") c.args.table.now.records.writes) = cc in
    let i : line_of (count_command c.spec-spec.result.now (codes "indices") (length c.indices.result.now)) ≡ line_of (count_command shape (codes "indices") (length shape.indices)) = cc in
    let r : line_of (count_command c.spec-spec.result.now (codes "records") c.len.result) ≡ line_of (count_command shape (codes "records") (length c.args.table.now.records.entries)) = cc in
    let p = err_from_is_err_and c.from_residual-in_err-put_count-3.result c.from_residual-in_err-put_count-3.ensures.1 in rw (p.1, p.2)
    (fails_second _ _ _ (puts_as _ _ _ _ w c.in_ok-put_count.ensures.puts) _ _ _
    (fails_second _ _ _ (puts_as _ _ _ _ i c.in_ok-put_count-2.ensures.puts) _ _ _ (fails_within _ _ _ _ _ (fails_as _ _ _ _ _ r c.in_err-put_count-3.ensures.puts))))

pub returns-clause-puts : goal.returns-clause-puts
returns-clause-puts g c =
    let shape = c.args.table.now.shape in
    let spec : c.spec-spec.result.now ≡ shape = c.spec-spec.ensures ∙ ap (λ t. t.shape) c.records.ensures in
    let w : line_of (count_command c.spec-spec.result.now (codes "writes") c.writes.result) ≡ line_of (count_command shape (codes "writes") c.args.table.now.records.writes) = cc in
    let i : line_of (count_command c.spec-spec.result.now (codes "indices") (length c.indices.result.now)) ≡ line_of (count_command shape (codes "indices") (length shape.indices)) = cc in
    let r : line_of (count_command c.spec-spec.result.now (codes "records") c.len.result) ≡ line_of (count_command shape (codes "records") (length c.args.table.now.records.entries)) = cc in
    let cs : line_of (columns_command c.spec-spec.result.now) ≡ line_of (columns_command shape) = ap (λ s. line_of (columns_command s)) spec in
    putting_both _ _ _ (puts_as _ _ _ _ w c.in_ok-put_count.ensures.puts) _ _ c.put_columns.result
    (putting_both _ _ _ (puts_as _ _ _ _ i c.in_ok-put_count-2.ensures.puts) _ _ c.put_columns.result
    (putting_both _ _ _ (puts_as _ _ _ _ r c.in_ok-put_count-3.ensures.puts) _ _ c.put_columns.result
    (putting_end _ _ _ c.put_columns.result (putting_as _ _ _ _ c.put_columns.result cs c.put_columns.ensures.puts))))
