use Rattle.std.proofs.Common.{[], List, ap, ap₂, get_or, length, map, subst, sym, None, ◌<◌, ◌≡◌, ◌++◌, ◌∙◌, ◌∷◌}
use Rattle.std.specs.List.{AllByRecursion}
use Rattle.std.proofs.lemmas.List.{length-map}
use Rattle.container_model.specs.declared.handle.Entry.{Entry}
use Rattle.container_model.specs.declared.handle.Handle.{Handle}
use Rattle.list_model.proofs.Lists.{All-join}
use Rattle.table_alter.specs.Sources.{entry_from, first_unheld}
use Rattle.table_alter.proofs.Pieces.{map_more}
use Rattle.table_state.proofs.Recorded.{entry_at, has_row, row_at}
use Rattle.table_terms.specs.Table.{Cells}
use Rattle.table_alter.proofs.entries.entries_of.Goals as goal

pub row_at-requires : goal.row_at-requires
row_at-requires c =
    let all = c.args.table.now.records.entries in
    let k = c.loop-handle.handle-index in
    let none : Handle = record { slot = 0; stamp = 0 } in
    let d : Entry Cells = record { handle = none; row = [] } in
    let are : c.deref-handle-items.result.now ≡ map (λ e. e.handle) all = c.deref-handle-items.ensures.value ∙ c.in_ok-handles.ensures.handles in
    let lt : k < length all = subst (λ n. k < n) (ap length are ∙ length-map all (λ e. e.handle)) c.loop-handle-test.true in
    has_row all c.in_ok-handles.ensures.apart c.deref-handle-items.result.now are k none d lt

pub loop-handle-preserved : goal.loop-handle-preserved
loop-handle-preserved c =
    let all = c.args.table.now.records.entries in
    let k = c.loop-handle.handle-index in
    let none : Handle = record { slot = 0; stamp = 0 } in
    let d : Entry Cells = record { handle = none; row = [] } in
    let are : c.deref-handle-items.result.now ≡ map (λ e. e.handle) all = c.deref-handle-items.ensures.value ∙ c.in_ok-handles.ensures.handles in
    let lt : k < length all = subst (λ n. k < n) (ap length are ∙ length-map all (λ e. e.handle)) c.loop-handle-test.true in
    let handles = c.deref-handle-items.result.now in
    let apart = c.in_ok-handles.ensures.apart in
    let row = c.in_ok-row.ensures.row _ (row_at all apart handles are k none d lt) in
    let handle = ap (λ (e : Entry Cells). e.handle) (entry_at all apart handles are k none d lt) in
    let items = c.in_ok-push.ensures.items in
    let entry = ap₂ (λ (h : Handle) (r : Cells). ◌++◌ {A = Entry Cells} c.loop-handle.entries.items (record { handle = h; row = r } ∷ [])) handle row in
    record {
      entries = items ∙ (entry ∙ (ap (λ (es : List (Entry Cells)). es ++ entry_from c.args.sources.now (get_or all k d) ∷ []) c.loop-handle.invariant.entries
          ∙ sym (map_more (entry_from c.args.sources.now) all k d lt)));
      held = subst (AllByRecursion (λ (e : Entry Cells). first_unheld c.args.columns.now e.row ≡ None)) (sym items) (All-join _ c.loop-handle.entries.items _ c.loop-handle.invariant.held (c.in_ok-row.ensures.held, tt));
    }
