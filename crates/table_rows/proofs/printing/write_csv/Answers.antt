use Rattle.std.proofs.Common.{◌≡◌, ◌∙◌, ◌<◌, ◌++◌, List, ℕ, ap, ap₂, sym, subst, get_or, length, append_assoc, flat_map, take}
use Rattle.std.proofs.KnownBytes.{Appends-trans}
use Rattle.std.specs.Io.KnownBytes.{Appends}
use Rattle.container_model.specs.declared.handle.Handle.{Handle}
use Rattle.container_model.specs.State.{State, list_at}
use Rattle.csv.specs.Writing.{default_writer, row_text}
use Rattle.table_rows.specs.Csv.{names_of, row_at, row_fields}
use Rattle.table_rows.proofs.Walks.{one_more}
use Rattle.table_schema.specs.Shape.{TableShape}
use Rattle.table_terms.specs.Table.{Cells, Keys, TableState}
use Rattle.table_rows.proofs.printing.write_csv.Goals as goal

pub loop-handle-preserved : goal.loop-handle-preserved
loop-handle-preserved g c =
    let t = c.args.table.now in
    let all = list_at t.records.lists c.args.index in
    let k = c.loop-handle.handle-index in
    let none : Handle = record { slot = 0; stamp = 0 } in
    let are : c.deref-handle-items.result.now ≡ all =
    c.deref-handle-items.ensures.value ∙ (c.in-Ok.ensures.ok ∙ ap (λ (s : State Keys Cells). list_at s.lists c.args.index) (c.container.ensures.value ∙ ap (λ (x : TableState). x.records) c.records.ensures)) in
    let lt : k < length all = subst (λ (n : ℕ). k < n) (ap length are) c.loop-handle-test.true in
    let columns = c.columns-columns.ensures.value ∙ ap (λ (s : TableShape). s.columns) (c.spec.ensures ∙ ap (λ (x : TableState). x.shape) c.records-2.ensures) in
    let row = ap (row_text default_writer) (c.in_ok-row.ensures ∙ ap₂ row_fields columns c.cells_at.ensures) ∙ ap (λ (hs : List Handle). row_at t (get_or hs k none)) are in
    let header = row_text default_writer (names_of t.shape.columns) in
    let more = append_assoc header (flat_map (row_at t) (take k all)) (row_at t (get_or all k none)) ∙ ap (λ (xs : List ℕ). header ++ xs) (sym (one_more (row_at t) all k none lt)) in
    let done = c.in_ok-write_row-2.ensures in
    record {
      text = subst (Appends _ _) more (Appends-trans _ _ _ _ _ c.loop-handle.invariant.text (subst (Appends _ _) row done.text));
      setup = done.setup;
      fields = done.fields;
      clean = done.clean;
    }
