use Rattle.std.proofs.lemmas.Result.{err_from_is_err_and}
use Rattle.std.proofs.Common.{◌≡◌, ◌<◌, ◌≤◌, length, map, get_or, sym, ap, ◌∙◌, subst}
use Rattle.std.proofs.lemmas.List.{take_all}
use Rattle.table_state.specs.State.{index_command, line_of, lines_text}
use Rattle.table_state.proofs.Lines.{lines_around, lines_more}
use Rattle.table_state.proofs.Putting.{fails_as, fails_second, fails_within, puts_as, puts_both}
use Rattle.table_state.proofs.write.put_indices.Goals as goal

pub returns-in_err-put_index-clause-puts : goal.returns-in_err-put_index-clause-puts
returns-in_err-put_index-clause-puts g c =
    let shape = c.args.table.now.shape in
    let spec : c.spec-spec.result.now ≡ shape = c.spec-spec.ensures ∙ ap (λ t. t.shape) c.records.ensures in
    let k = c.loop-index.index-index in
    let item = c.index-item.result in
    let same : c.indices-indices.result.now ≡ shape.indices = c.indices-indices.ensures.value ∙ ap (λ s. s.indices) spec in
    let lt : k < length shape.indices = subst (λ xs. k < length xs) same c.loop-index-test.true in
    let here : item ≡ get_or shape.indices k item = c.index-item.is ∙ ap (λ xs. get_or xs k item) same in
    let line : line_of (index_command c.spec-spec.result.now item) ≡ line_of (index_command shape (get_or shape.indices k item)) =
    ap (λ s. line_of (index_command s item)) spec ∙ ap (λ x. line_of (index_command shape x)) here in
    let all = lines_around (index_command shape) shape.indices k item lt in
    let p = err_from_is_err_and c.from_residual.result c.from_residual.ensures.1 in rw (p.1, p.2)
    (fails_as _ _ _ _ _ (sym all) (fails_second _ _ _ c.loop-index.invariant.puts _ _ _ (fails_within _ _ _ _ _ (fails_as _ _ _ _ _ line c.in_err-put_index.ensures.puts))))

pub loop-index-preserved : goal.loop-index-preserved
loop-index-preserved g c =
    let shape = c.args.table.now.shape in
    let spec : c.spec-spec.result.now ≡ shape = c.spec-spec.ensures ∙ ap (λ t. t.shape) c.records.ensures in
    let k = c.loop-index.index-index in
    let item = c.index-item.result in
    let same : c.indices-indices.result.now ≡ shape.indices = c.indices-indices.ensures.value ∙ ap (λ s. s.indices) spec in
    let lt : k < length shape.indices = subst (λ xs. k < length xs) same c.loop-index-test.true in
    let here : item ≡ get_or shape.indices k item = c.index-item.is ∙ ap (λ xs. get_or xs k item) same in
    let line : line_of (index_command c.spec-spec.result.now item) ≡ line_of (index_command shape (get_or shape.indices k item)) =
    ap (λ s. line_of (index_command s item)) spec ∙ ap (λ x. line_of (index_command shape x)) here in
    let all = lines_more (index_command shape) shape.indices k item lt in
    record {
      puts = puts_as _ _ _ _ (sym all) (puts_both _ _ _ c.loop-index.invariant.puts _ _ (puts_as _ _ _ _ line c.in_ok-put_index.ensures.puts));
      synced = c.in_ok-put_index.ensures.synced ∙ c.loop-index.invariant.synced;
      failures = c.in_ok-put_index.ensures.failures ∙ c.loop-index.invariant.failures;
    }

pub returns-clause-puts : goal.returns-clause-puts
returns-clause-puts g c =
    let shape = c.args.table.now.shape in
    let spec : c.spec-spec.result.now ≡ shape = c.spec-spec.ensures ∙ ap (λ t. t.shape) c.records.ensures in
    let same : c.indices-indices.result.now ≡ shape.indices = c.indices-indices.ensures.value ∙ ap (λ s. s.indices) spec in
    let le : length shape.indices ≤ c.loop-index.index-index = subst (λ xs. length xs ≤ c.loop-index.index-index) same c.loop-index-test.false in
    puts_as _ _ _ _ (ap (λ xs. lines_text (map (index_command shape) xs)) (take_all c.loop-index.index-index shape.indices le)) c.loop-index.invariant.puts
