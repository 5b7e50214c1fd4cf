use Rattle.std.proofs.lemmas.Result.{err_from_is_err_and}
use Rattle.std.proofs.Common.{◌≡◌, ◌<◌, ◌≤◌, length, map, [], sym, ap, ◌∙◌, subst}
use Rattle.std.proofs.lemmas.List.{length-map, take_all}
use Rattle.container_model.specs.declared.handle.Entry.{Entry}
use Rattle.container_model.specs.declared.handle.Handle.{Handle}
use Rattle.table_terms.specs.Table.{Cells}
use Rattle.table_state.specs.State.{line_of, lines_text, record_command}
use Rattle.table_state.proofs.Lines.{lines_around, lines_more}
use Rattle.table_state.proofs.Recorded.{entry_at, has_row, row_at}
use Rattle.table_state.proofs.Putting.{fails_as, fails_second, fails_within, puts_as, puts_both}
use Rattle.table_state.proofs.write.put_records.Goals as goal

pub put_record-requires : goal.put_record-requires
put_record-requires g c =
    let t = c.args.table.now in
    let k = c.loop-handle.handle-index in
    let none : Handle = record { slot = 0; stamp = 0 } in
    let d : Entry Cells = record { handle = none; row = [] } in
    let are : c.deref-handle-items.result.now ≡ map (λ e. e.handle) t.records.entries = c.deref-handle-items.ensures.value ∙ c.in_ok-handles.ensures.handles in
    let lt : k < length t.records.entries = subst (λ n. k < n) (ap length are ∙ length-map t.records.entries (λ e. e.handle)) c.loop-handle-test.true in
    has_row t.records.entries c.in_ok-handles.ensures.apart c.deref-handle-items.result.now are k none d lt

pub returns-in_err-put_record-clause-puts : goal.returns-in_err-put_record-clause-puts
returns-in_err-put_record-clause-puts g c =
    let t = c.args.table.now in
    let k = c.loop-handle.handle-index in
    let none : Handle = record { slot = 0; stamp = 0 } in
    let d : Entry Cells = record { handle = none; row = [] } in
    let are : c.deref-handle-items.result.now ≡ map (λ e. e.handle) t.records.entries = c.deref-handle-items.ensures.value ∙ c.in_ok-handles.ensures.handles in
    let lt : k < length t.records.entries = subst (λ n. k < n) (ap length are ∙ length-map t.records.entries (λ e. e.handle)) c.loop-handle-test.true in
    let at = row_at t.records.entries c.in_ok-handles.ensures.apart c.deref-handle-items.result.now are k none d lt in
    let line = ap (λ e. line_of (record_command t.shape e)) (entry_at t.records.entries c.in_ok-handles.ensures.apart c.deref-handle-items.result.now are k none d lt) in
    let all = lines_around (record_command t.shape) t.records.entries k d lt in
    let p = err_from_is_err_and c.from_residual-in_err-put_record.result c.from_residual-in_err-put_record.ensures.1 in rw (p.1, p.2)
    (fails_as _ _ _ _ _ (sym all) (fails_second _ _ _ c.loop-handle.invariant.puts _ _ _ (fails_within _ _ _ _ _ (fails_as _ _ _ _ _ line (c.in_err-put_record.ensures.puts _ at)))))

pub loop-handle-preserved : goal.loop-handle-preserved
loop-handle-preserved g c =
    let t = c.args.table.now in
    let k = c.loop-handle.handle-index in
    let none : Handle = record { slot = 0; stamp = 0 } in
    let d : Entry Cells = record { handle = none; row = [] } in
    let are : c.deref-handle-items.result.now ≡ map (λ e. e.handle) t.records.entries = c.deref-handle-items.ensures.value ∙ c.in_ok-handles.ensures.handles in
    let lt : k < length t.records.entries = subst (λ n. k < n) (ap length are ∙ length-map t.records.entries (λ e. e.handle)) c.loop-handle-test.true in
    let at = row_at t.records.entries c.in_ok-handles.ensures.apart c.deref-handle-items.result.now are k none d lt in
    let line = ap (λ e. line_of (record_command t.shape e)) (entry_at t.records.entries c.in_ok-handles.ensures.apart c.deref-handle-items.result.now are k none d lt) in
    let all = lines_more (record_command t.shape) t.records.entries k d lt in
    record {
      puts = puts_as _ _ _ _ (sym all) (puts_both _ _ _ c.loop-handle.invariant.puts _ _ (puts_as _ _ _ _ line (c.in_ok-put_record.ensures.puts _ at)));
      synced = c.in_ok-put_record.ensures.synced ∙ c.loop-handle.invariant.synced;
      failures = c.in_ok-put_record.ensures.failures ∙ c.loop-handle.invariant.failures;
    }

pub returns-clause-puts : goal.returns-clause-puts
returns-clause-puts g c =
    let t = c.args.table.now in
    let are : c.deref-handle-items.result.now ≡ map (λ e. e.handle) t.records.entries = c.deref-handle-items.ensures.value ∙ c.in_ok-handles.ensures.handles in
    let le : length t.records.entries ≤ c.loop-handle.handle-index = subst (λ n. n ≤ c.loop-handle.handle-index) (ap length are ∙ length-map t.records.entries (λ e. e.handle)) c.loop-handle-test.false in
    puts_as _ _ _ _ (ap (λ xs. lines_text (map (record_command t.shape) xs)) (take_all c.loop-handle.handle-index t.records.entries le)) c.loop-handle.invariant.puts
