-- What the writes do to a table.
use Rattle.std.specs.Prelude.{ℕ, ◌+◌, List, Option, Some, None}
use Rattle.container_model.specs.declared.handle.Handle.{Handle}
use Rattle.container_model.specs.Change.{cleared, erase_key_refusal, erase_refusal, erased_count, next_in, replace_refusal, spent, with_erased, with_key_erased, with_replaced}
use Rattle.container_model.specs.Insert.{At, new_handle, with_inserted}
use Rattle.table_cmd.specs.declared.command.Field.{Field}
use Rattle.table_cmd.specs.declared.command.HandleText.{HandleText}
use Rattle.table_cmd.specs.declared.command.Position.{Position}
use Rattle.table_cmd.specs.declared.command.Value.{Value}
use Rattle.table_reply.specs.declared.fault.Fault.TheVariants as faults
use Rattle.table_reply.specs.Answer.{Answer, after, counted, done, found}
use Rattle.table_terms.specs.declared.kinds.Kinds.TheVariants as kinds
use Rattle.table_records.specs.Changes.{refusal_at}
use Rattle.table_terms.specs.Step.{Step, changed, then_step}
use Rattle.table_terms.specs.Table.{Cells, TableState, probe_order, row_order}
use Rattle.table_terms.specs.Words.{at_key, handle_for, index_named, or_fault}
use Rattle.table_terms.specs.Values.{row_from}

-- a row put in
unfoldable pub insert_row : TableState → At → Cells → Step
insert_row t at row = changed t (refusal_at t at row) (found (t.records.writes + 1) (Some (new_handle t.records))) (with_inserted row_order t.records at row)

-- the row of these fields put in
abbrev pub insert_fields : TableState → At → List Field → Step
insert_fields t at fields = then_step t (or_fault faults.Row (row_from t.shape.columns fields)) (insert_row t at)

-- an insertion: without a position the row goes last at each sequence
abbrev pub insert_step : TableState → List Field → Option Position → Step
insert_step t fields None = insert_fields t None fields
insert_step t fields (Some position) =
    then_step t (index_named kinds.Sequence t.shape.indices position.index) (λ index. insert_fields t (Some (index, position.place)) fields)

-- a record's row replaced
unfoldable pub replace_row : TableState → Handle → Cells → Step
replace_row t h row = changed t (replace_refusal row_order t.records h row) (done (t.records.writes + 1)) (with_replaced row_order t.records h row)

-- by the row of these fields
abbrev pub replace_step : TableState → HandleText → List Field → Step
replace_step t text fields = then_step t (or_fault faults.Row (row_from t.shape.columns fields)) (λ row. then_step t (handle_for text) (λ h. replace_row t h row))

-- what an erasure is answered by: where an index is named, the record that came next there
abbrev pub erased_answer : TableState → Option ℕ → Handle → Answer
erased_answer t None h = done (t.records.writes + 1)
erased_answer t (Some index) h = after (t.records.writes + 1) (next_in t.records index h)

-- a record taken out
unfoldable pub erase_record : TableState → Option ℕ → Handle → Step
erase_record t index h = changed t (erase_refusal t.records h index) (erased_answer t index h) (with_erased t.records h)

abbrev pub erase_text : TableState → HandleText → Option ℕ → Step
erase_text t text index = then_step t (handle_for text) (erase_record t index)

-- an erasure, which may ask for the next record at an index
abbrev pub erase_step : TableState → HandleText → Option (List ℕ) → Step
erase_step t text None = erase_text t text None
erase_step t text (Some name) = then_step t (index_named kinds.Walked t.shape.indices name) (λ index. erase_text t text (Some index))

-- the records that have a search key taken out
unfoldable pub erase_probe : TableState → ℕ → Cells → Step
erase_probe t index probe =
    changed t (erase_key_refusal t.records index) (counted (t.records.writes + 1) (erased_count probe_order t.records index probe))
    (with_key_erased probe_order t.records index probe)

abbrev pub erase_key_step : TableState → List ℕ → List Value → Step
erase_key_step t name values = at_key t kinds.Keyed name values (erase_probe t)

-- all records taken out
unfoldable pub clear_step : TableState → Step
clear_step t = changed t (spent t.records) (done (t.records.writes + 1)) (cleared t.records)
