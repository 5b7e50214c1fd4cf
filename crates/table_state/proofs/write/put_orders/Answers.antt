use Rattle.std.proofs.lemmas.Result.{err_from_is_err_and}
use Rattle.std.proofs.Common.{◌≡◌, ◌<◌, ◌≤◌, length, map, get_or, sym, ap, zero-add, ◌∙◌, subst}
use Rattle.std.specs.List.{range_with_len}
use Rattle.std.proofs.lemmas.List.{take_all}
use Rattle.std.proofs.lemmas.List.FromFn.{get_or-range_with_len, length-range_with_len}
use Rattle.table_state.specs.State.{line_of, lines_text, order_at}
use Rattle.table_state.proofs.Lines.{lines_around, lines_more}
use Rattle.table_state.proofs.Putting.{fails_as, fails_second, fails_within, puts_as, puts_both}
use Rattle.table_state.proofs.write.put_orders.Goals as goal

pub returns-in_err-put_order-clause-puts : goal.returns-in_err-put_order-clause-puts
returns-in_err-put_order-clause-puts g c =
    let t = c.args.table.now in
    let k = c.loop-index.index in
    let numbers = range_with_len 0 (length t.shape.indices) in
    let spec : c.spec.result.now ≡ t.shape = c.spec.ensures ∙ ap (λ s. s.shape) c.records.ensures in
    let same : c.indices-index-end.result.now ≡ t.shape.indices = c.indices-index-end.ensures.value ∙ ap (λ s. s.indices) spec in
    let lt : k < length t.shape.indices = subst (λ xs. k < length xs) same c.loop-index-test.true in
    let in_range : k < length numbers = subst (λ n. k < n) (sym (length-range_with_len 0 (length t.shape.indices))) lt in
    let line : line_of (order_at t.shape t.records.lists k) ≡ line_of (order_at t.shape t.records.lists (get_or numbers k 0)) =
    ap (λ i. line_of (order_at t.shape t.records.lists i)) (sym (get_or-range_with_len 0 (length t.shape.indices) k 0 lt ∙ zero-add k)) in
    let all = lines_around (order_at t.shape t.records.lists) numbers k 0 in_range in
    let p = err_from_is_err_and c.from_residual.result c.from_residual.ensures.1 in rw (p.1, p.2)
    (fails_as _ _ _ _ _ (sym all) (fails_second _ _ _ c.loop-index.invariant.puts _ _ _ (fails_within _ _ _ _ _ (fails_as _ _ _ _ _ line c.in_err-put_order.ensures.puts))))

pub loop-index-preserved : goal.loop-index-preserved
loop-index-preserved g c =
    let t = c.args.table.now in
    let k = c.loop-index.index in
    let numbers = range_with_len 0 (length t.shape.indices) in
    let spec : c.spec.result.now ≡ t.shape = c.spec.ensures ∙ ap (λ s. s.shape) c.records.ensures in
    let same : c.indices-index-end.result.now ≡ t.shape.indices = c.indices-index-end.ensures.value ∙ ap (λ s. s.indices) spec in
    let lt : k < length t.shape.indices = subst (λ xs. k < length xs) same c.loop-index-test.true in
    let in_range : k < length numbers = subst (λ n. k < n) (sym (length-range_with_len 0 (length t.shape.indices))) lt in
    let line : line_of (order_at t.shape t.records.lists k) ≡ line_of (order_at t.shape t.records.lists (get_or numbers k 0)) =
    ap (λ i. line_of (order_at t.shape t.records.lists i)) (sym (get_or-range_with_len 0 (length t.shape.indices) k 0 lt ∙ zero-add k)) in
    let all = lines_more (order_at t.shape t.records.lists) numbers k 0 in_range in
    record {
      puts = puts_as _ _ _ _ (sym all) (puts_both _ _ _ c.loop-index.invariant.puts _ _ (puts_as _ _ _ _ line c.in_ok-put_order.ensures.puts));
      synced = c.in_ok-put_order.ensures.synced ∙ c.loop-index.invariant.synced;
      failures = c.in_ok-put_order.ensures.failures ∙ c.loop-index.invariant.failures;
    }

pub returns-clause-puts : goal.returns-clause-puts
returns-clause-puts g c =
    let t = c.args.table.now in
    let n = length t.shape.indices in
    let numbers = range_with_len 0 n in
    let spec : c.spec.result.now ≡ t.shape = c.spec.ensures ∙ ap (λ s. s.shape) c.records.ensures in
    let same : c.indices-index-end.result.now ≡ t.shape.indices = c.indices-index-end.ensures.value ∙ ap (λ s. s.indices) spec in
    let le : n ≤ c.loop-index.index = subst (λ xs. length xs ≤ c.loop-index.index) same c.loop-index-test.false in
    let all : length numbers ≤ c.loop-index.index = subst (λ m. m ≤ c.loop-index.index) (sym (length-range_with_len 0 n)) le in
    puts_as _ _ _ _ (ap (λ xs. lines_text (map (order_at t.shape t.records.lists) xs)) (take_all c.loop-index.index numbers all)) c.loop-index.invariant.puts
