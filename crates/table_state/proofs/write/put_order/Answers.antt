use Rattle.std.proofs.lemmas.Result.{err_from_is_err_and}
use Rattle.std.proofs.Common.{◌≡◌, get_or, sym, ap, Some, [], ◌∙◌}
use Rattle.std.specs.Prelude.{slice_get}
use Rattle.std.specs.Option.{option_map_or}
use Rattle.container_model.specs.State.{list_at}
use Rattle.list_model.proofs.Lists.{slice_get_at}
use Rattle.table_schema.specs.declared.column.IndexSpec.{IndexSpec}
use Rattle.table_state.specs.State.{line_of, order_at, order_command}
use Rattle.table_state.proofs.Putting.{putting_as, stops_first}
use Rattle.table_state.proofs.write.put_order.Goals as goal

pub returns-in_err-command-clause-puts : goal.returns-in_err-command-clause-puts
returns-in_err-command-clause-puts g c =
    let p = err_from_is_err_and c.from_residual.result c.from_residual.ensures.1 in rw (p.1, p.2)
    (stops_first _ _ _ _ _, tt)

pub returns-clause-puts : goal.returns-clause-puts
returns-clause-puts g c =
    let t = c.args.table.now in
    let index = c.args.index in
    let item = c.index-indices-index.result in
    let spec : c.spec-spec.result.now ≡ t.shape = cc in
    let same : c.indices.result.now ≡ t.shape.indices = cc in
    let here : item ≡ get_or t.shape.indices index item = c.index-indices-index.is ∙ ap (λ xs. get_or xs index item) same in
    let found : slice_get t.shape.indices index ≡ Some item = slice_get_at t.shape.indices index item c.requires ∙ ap Some (sym here) in
    let named : c.as_str.result.now ≡ option_map_or (λ i. i.name) (slice_get t.shape.indices index) [] = c.as_str.ensures ∙ ap (λ (i : IndexSpec). i.name) (sym c.index-indices-index.is) ∙ sym (ap (λ o. option_map_or (λ i. i.name) o []) found) in
    let listed : c.deref.result.now ≡ list_at t.records.lists index = cc (c.deref.ensures.value, c.in-Ok.ensures.ok) in
    let is : c.in_ok-command.command ≡ order_at t.shape t.records.lists index =
    c.in_ok-command.ensures ∙ ap (λ s. order_command s c.as_str.result.now c.deref.result.now) spec ∙ ap (λ n. order_command t.shape n c.deref.result.now) named
    ∙ ap (λ hs. order_command t.shape (option_map_or (λ i. i.name) (slice_get t.shape.indices index) []) hs) listed in
    putting_as _ _ _ _ c.put.result (ap line_of is) c.put.ensures.puts
