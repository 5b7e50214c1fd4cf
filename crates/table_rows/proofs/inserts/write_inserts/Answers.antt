use Rattle.std.proofs.Common.{◌≡◌, ◌∙◌, ◌<◌, List, ℕ, ap, sym, subst, get_or, length}
use Rattle.std.proofs.KnownBytes.{Appends-trans}
use Rattle.std.specs.Io.KnownBytes.{Appends}
use Rattle.container_model.specs.declared.handle.Handle.{Handle}
use Rattle.container_model.specs.State.{State, list_at}
use Rattle.table_log.specs.Logged.{log_line}
use Rattle.table_rows.specs.Inserts.{insert_line_at, insert_of}
use Rattle.table_rows.proofs.Walks.{one_more}
use Rattle.table_terms.specs.Table.{Cells, Keys, TableState}
use Rattle.table_rows.proofs.inserts.write_inserts.Goals as goal

pub loop-handle-preserved : goal.loop-handle-preserved
loop-handle-preserved g c =
    let t = c.args.table.now in
    let all = list_at t.records.lists c.args.index in
    let k = c.loop-handle.handle-index in
    let none : Handle = record { slot = 0; stamp = 0 } in
    let are : c.deref-handle-items.result.now ≡ all =
    c.deref-handle-items.ensures.value ∙ (c.in-Ok.ensures.ok ∙ ap (λ (s : State Keys Cells). list_at s.lists c.args.index) (c.container.ensures.value ∙ ap (λ (x : TableState). x.records) c.records.ensures)) in
    let lt : k < length all = subst (λ (n : ℕ). k < n) (ap length are) c.loop-handle-test.true in
    let line = c.deref.ensures.value ∙ (c.in_ok-line.ensures ∙ (ap (λ (cells : Cells). log_line (insert_of t.shape cells)) c.cells_at.ensures ∙ ap (λ (hs : List Handle). insert_line_at t (get_or hs k none)) are)) in
    subst (Appends _ _) (sym (one_more (insert_line_at t) all k none lt))
    (Appends-trans _ _ _ _ _ c.loop-handle.invariant (subst (Appends _ _) line c.in_ok-write_line.ensures))
