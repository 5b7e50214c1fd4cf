-- What the modifications do to a table.
use Rattle.std.specs.Prelude.{ℕ, ◌+◌, Bool, if◌then◌else◌, List, Option, Some, None}
use Rattle.container_model.specs.declared.handle.Handle.{Handle}
use Rattle.container_model.specs.Change.{modify_refusal, with_modified}
use Rattle.container_model.specs.Insert.{ban}
use Rattle.container_model.specs.State.{row_of}
use Rattle.key_extract.specs.Keys.{parts_at}
use Rattle.table_changes.specs.Changes.{replace_row}
use Rattle.table_cmd.specs.declared.command.Field.{Field}
use Rattle.table_cmd.specs.declared.command.HandleText.{HandleText}
use Rattle.table_cmd.specs.declared.command.Value.{Value}
use Rattle.table_reply.specs.declared.fault.Fault.TheVariants as faults
use Rattle.table_reply.specs.Answer.{Answer, done, erased}
use Rattle.table_terms.specs.Edits.{edited_row, is_edit, keyed_row}
use Rattle.table_terms.specs.Step.{Step, changed, refused, then_step}
use Rattle.table_terms.specs.Table.{Cells, TableState, index_name, keys_of, row_order}
use Rattle.table_terms.specs.Words.{handle_for, or_fault, whole_key_for}

-- what a modification is answered by: where the record is lost, the unique index and the record that has its new key there
abbrev pub modified_answer : TableState → Option (ℕ × Handle) → Answer
modified_answer t None = done (t.records.writes + 1)
modified_answer t (Some at) = erased (t.records.writes + 1) (index_name t at.0) at.1

-- a record's row changed; the record is lost where another has its new key at a unique index
unfoldable pub modify_row : TableState → Handle → Cells → Step
modify_row t h row =
    changed t (modify_refusal t.records h) (modified_answer t (ban row_order t.records (Some h) row)) (with_modified row_order t.records h row)

-- with rollback the row is refused there, as where it is replaced
abbrev pub change_row : TableState → (rollback : Bool) → Handle → Cells → Step
change_row t rollback h row = if rollback then replace_row t h row else modify_row t h row

-- the row of a handle's record changed
abbrev pub at_row : TableState → Handle → (Cells → Step) → Step
at_row t h step = then_step t (or_fault faults.Handle (row_of t.records.entries h)) step

-- to the one with cells set and numbers added
unfoldable pub edit_record : TableState → (set add : List Field) → (rollback : Bool) → Handle → Step
edit_record t set add rollback h =
    at_row t h (λ row. then_step t (or_fault faults.Overflow (edited_row t.shape.columns set add row)) (change_row t rollback h))

abbrev pub modify_step : TableState → HandleText → (set add : List Field) → (rollback : Bool) → Step
modify_step t text set add rollback =
    if is_edit t.shape.columns set add then then_step t (handle_for text) (edit_record t set add rollback) else refused t faults.Row

-- to the one with the key of an index put in
unfoldable pub put_key : TableState → ℕ → Cells → (rollback : Bool) → Handle → Step
put_key t index key rollback h = at_row t h (λ row. change_row t rollback h (keyed_row (parts_at (keys_of t.shape) index) key row))

abbrev pub modify_key_step : TableState → List ℕ → HandleText → List Value → (rollback : Bool) → Step
modify_key_step t name text values rollback =
    then_step t (whole_key_for t.shape name values) (λ key. then_step t (handle_for text) (put_key t key.0 key.1 rollback))
