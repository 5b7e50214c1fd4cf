-- A table that can stand still can after each command that a line can say.
use Rattle.std.proofs.Common.{◌≡◌, ℕ, Bool, true, false, List, Option, Some, None, sym, subst}
use Rattle.std.specs.Prelude.{bytes_eq, if◌then◌else◌}
use Rattle.std.specs.List.{AllByRecursion}
use Rattle.command_lines.specs.Fits.{ChangesFit, CommandFits, FieldFits, FieldsFit, KeyFits}
use Rattle.container_model.specs.declared.handle.Handle.{Handle}
use Rattle.container_model.specs.Insert.{At}
use Rattle.container_model.specs.State.{row_of}
use Rattle.key_extract.specs.Keys.{parts_at}
use Rattle.table_changes.specs.Change.{change_step, is_change}
use Rattle.table_changes.specs.Changes.{erase_text, insert_fields, replace_step}
use Rattle.table_changes.specs.Modify.{at_row, edit_record, put_key}
use Rattle.table_changes.specs.Moves.{parts_named}
use Rattle.table_cmd.specs.Command.{added_in, set_in, table_in}
use Rattle.table_cmd.specs.declared.command.Changes.{Changes}
use Rattle.table_cmd.specs.declared.command.Changes.TheVariants.{Add, Both, Set}
use Rattle.table_cmd.specs.declared.command.Command.{Command}
use Rattle.table_cmd.specs.declared.command.Command.TheVariants as commands
use Rattle.table_cmd.specs.declared.command.Field.{Field}
use Rattle.table_cmd.specs.declared.command.HandleText.{HandleText}
use Rattle.table_cmd.specs.declared.command.Value.{Value}
use Rattle.table_reads.specs.Read.{read_step}
use Rattle.table_reply.specs.declared.fault.Fault.TheVariants as faults
use Rattle.table_schema.specs.Defined.{defined}
use Rattle.table_state.specs.Standing.{CanStand, RowFits}
use Rattle.table_step.specs.Step.{step_at, step_of}
use Rattle.table_terms.specs.declared.kinds.Kinds.TheVariants as kinds
use Rattle.table_terms.specs.Edits.{edited_row, is_edit, keyed_row}
use Rattle.table_terms.specs.Step.{Step}
use Rattle.table_terms.specs.Table.{Cells, TableState, keys_of}
use Rattle.table_terms.specs.Values.{part_cells, row_from}
use Rattle.table_terms.specs.Words.{handle_for, index_named, key_for, or_fault, record_for, spelled, whole_key_for}
use Rattle.table_state.proofs.Stays.Edited.{row_edited}
use Rattle.table_state.proofs.Stays.Entries.{row_lasts}
use Rattle.table_state.proofs.Stays.Found.{both_found, fault_free, index_within, key_found}
use Rattle.table_state.proofs.Stays.Indices.{added_stands, dropped_stands, is_new}
use Rattle.table_state.proofs.Stays.Keyed.{row_keyed}
use Rattle.table_state.proofs.Stays.Reads.{read_same}
use Rattle.table_state.proofs.Stays.Records.{change_row_stands, cleared_stands, erased_stands, inserted_stands, key_erased_stands, moved_stands, rearranged_stands, replaced_stands, reversed_stands, sorted_stands}
use Rattle.table_state.proofs.Stays.Rows.{row_made}
use Rattle.table_state.proofs.Stays.Writes.{all_last, tested_stands, then_stands}

sets_fit : (changes : Changes) → ChangesFit changes → AllByRecursion FieldFits (set_in changes)
sets_fit (Set set) fits = fits.0
sets_fit (Add add) fits = tt
sets_fit (Both set add) fits = fits.0.0

adds_fit : (changes : Changes) → ChangesFit changes → AllByRecursion FieldFits (added_in changes)
adds_fit (Set set) fits = tt
adds_fit (Add add) fits = fits.0
adds_fit (Both set add) fits = fits.1.0

module _ (t : TableState) (stands : CanStand t) where
  -- ---- its parts

  insert_stands : (at : At) (fields : List Field) → FieldsFit fields → CanStand (insert_fields t at fields).table
  insert_stands at fields fits = then_stands t stands (or_fault faults.Row (row_from t.shape.columns fields)) _ (λ row e.
      inserted_stands t stands at row (row_made t.shape.columns fields row fits (fault_free faults.Row _ row e)))

  replace_stands : (text : HandleText) (fields : List Field) → FieldsFit fields → CanStand (replace_step t text fields).table
  replace_stands text fields fits = then_stands t stands (or_fault faults.Row (row_from t.shape.columns fields)) _ (λ row e.
      then_stands t stands (handle_for text) _ (λ h _.
      replaced_stands t stands h row (row_made t.shape.columns fields row fits (fault_free faults.Row _ row e))))

  at_row_stands : (h : Handle) (step : Cells → Step) → ((row : Cells) → RowFits t.shape.columns row → CanStand (step row).table) → CanStand (at_row t h step).table
  at_row_stands h step each = then_stands t stands (or_fault faults.Handle (row_of t.records.entries h)) step (λ row e.
      each row (row_lasts t.shape.columns t.shape.max h row t.records.entries (all_last t stands) (fault_free faults.Handle _ row e)))

  edit_stands : (set add : List Field) → AllByRecursion FieldFits set → AllByRecursion FieldFits add → (rollback : Bool) (h : Handle) → CanStand (edit_record t set add rollback h).table
  unfolding edit_record
  edit_stands set add sets adds rollback h = at_row_stands h _ (λ row fits.
      then_stands t stands (or_fault faults.Overflow (edited_row t.shape.columns set add row)) _ (λ new e.
      change_row_stands t stands rollback h new (row_edited t.shape.columns set add row new sets adds fits (fault_free faults.Overflow _ new e))))

  key_stands : (values : List Value) (key : ℕ × Cells) → KeyFits values → part_cells t.shape.columns (parts_at (keys_of t.shape) key.0) values ≡ Some key.1 →
      (rollback : Bool) (h : Handle) → CanStand (put_key t key.0 key.1 rollback h).table
  unfolding put_key
  key_stands values key fits is rollback h = at_row_stands h _ (λ row held.
      change_row_stands t stands rollback h (keyed_row (parts_at (keys_of t.shape) key.0) key.1 row)
      (row_keyed t.shape.columns (parts_at (keys_of t.shape) key.0) values key.1 row fits is held))

  erase_stands : (text : HandleText) (index : Option ℕ) → CanStand (erase_text t text index).table
  erase_stands text index = then_stands t stands (handle_for text) _ (λ h _. erased_stands t stands index h)

  -- ---- a change

  pub change_stands : (command : Command) → CommandFits command → CanStand (change_step t command).table
  change_stands (commands.Insert table fields None) fits = insert_stands None fields fits.1
  change_stands (commands.Insert table fields (Some position)) fits =
      then_stands t stands (index_named kinds.Sequence t.shape.indices position.index) _ (λ index _. insert_stands (Some (index, position.place)) fields fits.1)
  change_stands (commands.Replace table text fields) fits = replace_stands text fields fits.2
  change_stands (commands.Modify table text changes rollback) fits =
      tested_stands t stands (is_edit t.shape.columns (set_in changes) (added_in changes)) _ faults.Row
      (then_stands t stands (handle_for text) _ (λ h _. edit_stands (set_in changes) (added_in changes) (sets_fit changes fits.2) (adds_fit changes fits.2) rollback h))
  change_stands (commands.ModifyKey table name text values rollback) fits =
      then_stands t stands (whole_key_for t.shape name values) _ (λ key e.
      then_stands t stands (handle_for text) _ (λ h _. key_stands values key fits.3 (key_found t.shape values key name e) rollback h))
  change_stands (commands.Erase table text None) fits = erase_stands text None
  change_stands (commands.Erase table text (Some name)) fits = then_stands t stands (index_named kinds.Walked t.shape.indices name) _ (λ index _. erase_stands text (Some index))
  change_stands (commands.EraseKey table name values) fits = then_stands t stands (key_for t.shape kinds.Keyed name values) _ (λ key _. key_erased_stands t stands key.0 key.1)
  change_stands (commands.Clear table) fits = cleared_stands t stands
  change_stands (commands.Move table name text place) fits =
      then_stands t stands (record_for kinds.Sequence t.shape.indices name text) _ (λ at e.
      moved_stands t stands at.0 (index_within kinds.Sequence t.shape.indices name at.0 (both_found (index_named kinds.Sequence t.shape.indices name) (handle_for text) at e).0) place at.1)
  change_stands (commands.Rearrange table name texts) fits =
      then_stands t stands (index_named kinds.Sequence t.shape.indices name) _ (λ index e.
      then_stands t stands (or_fault faults.Handle (spelled texts)) _ (λ handles _.
      rearranged_stands t stands index (index_within kinds.Sequence t.shape.indices name index e) handles))
  change_stands (commands.Sort table name names) fits =
      then_stands t stands (index_named kinds.Sequence t.shape.indices name) _ (λ index e.
      then_stands t stands (or_fault faults.Key (parts_named t.shape.columns names)) _ (λ parts _.
      sorted_stands t stands index (index_within kinds.Sequence t.shape.indices name index e) parts))
  change_stands (commands.Reverse table name) fits =
      then_stands t stands (index_named kinds.Sequence t.shape.indices name) _ (λ index e. reversed_stands t stands index (index_within kinds.Sequence t.shape.indices name index e))
  change_stands (commands.AddIndex table name kind unique key) fits =
      then_stands t stands (or_fault faults.Definition (defined t.shape.columns t.shape.indices (record { name = name; kind = kind; unique = unique; key = key }))) _ (λ index e.
      added_stands t stands index (is_new t.shape.columns t.shape.indices (record { name = name; kind = kind; unique = unique; key = key }) index (fault_free faults.Definition _ index e)))
  change_stands (commands.DropIndex table name) fits =
      then_stands t stands (index_named kinds.All t.shape.indices name) _ (λ index e. dropped_stands t stands index (index_within kinds.All t.shape.indices name index e))
  change_stands read fits = stands

either_stands : (b : Bool) (x y : Step) → CanStand x.table → CanStand y.table → CanStand (if b then x else y).table
either_stands true x y h k = h
either_stands false x y h k = k

-- each command
pub step_stands : (t : TableState) (command : Command) → CommandFits command → CanStand t → CanStand (step_of t command).table
unfolding step_of
step_stands t command fits stands =
    tested_stands t stands (bytes_eq (table_in command) t.shape.name) (step_at t command) faults.Table
    (either_stands (is_change command) (change_step t command) (read_step t command) (change_stands t stands command fits) (subst CanStand (sym (read_same t command)) stands))
