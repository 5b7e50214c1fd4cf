-- A change that is no write leaves the table, and each change leaves it under its name and columns.
use Rattle.std.proofs.Common.{◌≡◌, ℕ, Bool, true, false, cond, Option, Some, None, Result, Ok, Err, List, refl, sym, subst, ◌∙◌}
use Rattle.container_model.specs.declared.handle.Handle.{Handle}
use Rattle.container_model.specs.declared.refusal.Why.{Why}
use Rattle.container_model.specs.Change.{erase_key_refusal, erase_refusal, modify_refusal, replace_refusal, spent}
use Rattle.container_model.specs.Indices.{drop_index_refusal}
use Rattle.container_model.specs.Insert.{At}
use Rattle.container_model.specs.Sequence.{rearrange_refusal, relocate_refusal, sequence_refusal}
use Rattle.container_model.specs.State.{State, row_of}
use Rattle.key_extract.specs.Keys.{parts_at}
use Rattle.table_cmd.specs.Command.{added_in, set_in}
use Rattle.table_cmd.specs.declared.command.Command.{Command}
use Rattle.table_cmd.specs.declared.command.Command.TheVariants as commands
use Rattle.table_cmd.specs.declared.command.Field.{Field}
use Rattle.table_cmd.specs.declared.command.HandleText.{HandleText}
use Rattle.table_changes.specs.Change.{change_step}
use Rattle.table_changes.specs.Changes.{clear_step, erase_probe, erase_record, erase_text, replace_row, insert_fields, insert_row}
use Rattle.table_changes.specs.Indices.{add_defined, drop_at}
use Rattle.table_changes.specs.Modify.{at_row, change_row, edit_record, modify_row, put_key}
use Rattle.table_changes.specs.Moves.{move_record, parts_named, rearrange_in, reverse_in, sort_in}
use Rattle.table_records.specs.Changes.{refusal_at}
use Rattle.table_records.specs.Reindexed.{add_refusal, with_table_index, without_table_index}
use Rattle.table_reply.specs.Answer.{Answer}
use Rattle.table_reply.specs.declared.fault.Fault.{Fault}
use Rattle.table_reply.specs.declared.fault.Fault.TheVariants as faults
use Rattle.table_schema.specs.Defined.{defined, with_index}
use Rattle.table_schema.specs.Shape.{TableShape}
use Rattle.table_terms.specs.declared.kinds.Kinds.TheVariants as kinds
use Rattle.table_terms.specs.declared.outcome.Outcome.{Outcome}
use Rattle.table_terms.specs.declared.outcome.Outcome.TheVariants as outcomes
use Rattle.table_terms.specs.Edits.{edited_row, is_edit, keyed_row}
use Rattle.table_terms.specs.Step.{Step, Steps, Took, changed, refused, reindexed, then_step}
use Rattle.table_terms.specs.Table.{TableState, Cells, IsOfSameTable, Keys, keys_of, row_order}
use Rattle.table_terms.specs.Words.{handle_for, index_named, key_for, or_fault, record_for, spelled, whole_key_for}

-- the table is the same unless it was written to, and then its indices alone may be declared anew
pub record KeepsUnlessWritten (t : TableState) (step : Step) : Type 0 where
  pub table : (step.outcome ≡ outcomes.Write → ⊥) → step.table ≡ t
  pub declared : IsOfSameTable step.table.shape t.shape

same_declaration : (shape : TableShape) → IsOfSameTable shape shape
same_declaration shape = record { name = refl; max = refl; columns = refl; place = refl; tables = refl }

module _ (t : TableState) where
  refused_keeps : (why : _) → KeepsUnlessWritten t (refused t why)
  refused_keeps why = record { table = λ _. refl; declared = same_declaration t.shape }

  after_keeps : {X : Type 0} (r : Result X Fault) (step : X → Step) → ((x : X) → KeepsUnlessWritten t (step x)) → KeepsUnlessWritten t (then_step t r step)
  after_keeps (Ok x) step k = k x
  after_keeps (Err why) step k = refused_keeps why

  changed_keeps : (refusal : Option Why) (answer : Answer) (records : State Keys Cells) → KeepsUnlessWritten t (changed t refusal answer records)
  changed_keeps None answer records = record { table = λ n. absurd (n refl); declared = same_declaration t.shape }
  changed_keeps (Some why) answer records = record { table = λ _. refl; declared = same_declaration t.shape }

  reindexed_keeps : (names : TableShape) (refusal : Option Why) (answer : Answer) (new : TableState) → IsOfSameTable new.shape t.shape → KeepsUnlessWritten t (reindexed t names refusal answer new)
  reindexed_keeps names None answer new same = record { table = λ n. absurd (n refl); declared = same }
  reindexed_keeps names (Some why) answer new same = record { table = λ _. refl; declared = same_declaration t.shape }

  tested_keeps : (b : Bool) (step : Step) (why : Fault) → KeepsUnlessWritten t step → KeepsUnlessWritten t (cond b step (refused t why))
  tested_keeps true step why k = k
  tested_keeps false step why k = refused_keeps why

  row_keeps : (at : At) (fields : List Field) → KeepsUnlessWritten t (insert_fields t at fields)
  unfolding insert_row
  row_keeps at fields = after_keeps _ _ (λ row. changed_keeps (refusal_at t at row) _ _)

  change_row_keeps : (rollback : Bool) (h : Handle) (row : Cells) → KeepsUnlessWritten t (change_row t rollback h row)
  unfolding replace_row modify_row
  change_row_keeps true h row = changed_keeps (replace_refusal row_order t.records h row) _ _
  change_row_keeps false h row = changed_keeps (modify_refusal t.records h) _ _

  at_row_keeps : (h : Handle) (step : Cells → Step) → ((row : Cells) → KeepsUnlessWritten t (step row)) → KeepsUnlessWritten t (at_row t h step)
  at_row_keeps h step k = after_keeps (or_fault faults.Handle (row_of t.records.entries h)) step k

  erase_keeps : (text : HandleText) (index : Option ℕ) → KeepsUnlessWritten t (erase_text t text index)
  unfolding erase_record
  erase_keeps text index = after_keeps (handle_for text) _ (λ h. changed_keeps (erase_refusal t.records h index) _ _)

  in_sequence : (name : List ℕ) (step : ℕ → Step) → ((index : ℕ) → KeepsUnlessWritten t (step index)) → KeepsUnlessWritten t (then_step t (index_named kinds.Sequence t.shape.indices name) step)
  in_sequence name step k = after_keeps (index_named kinds.Sequence t.shape.indices name) step k

  pub change_keeps : (command : Command) → KeepsUnlessWritten t (change_step t command)
  unfolding replace_row edit_record put_key erase_probe clear_step move_record rearrange_in sort_in reverse_in add_defined drop_at
  change_keeps (commands.Insert table fields None) = row_keeps None fields
  change_keeps (commands.Insert table fields (Some position)) = in_sequence position.index _ (λ index. row_keeps (Some (index, position.place)) fields)
  change_keeps (commands.Replace table text fields) =
      after_keeps _ _ (λ row. after_keeps (handle_for text) _ (λ h. changed_keeps (replace_refusal row_order t.records h row) _ _))
  change_keeps (commands.Modify table text changes rollback) =
      tested_keeps (is_edit t.shape.columns (set_in changes) (added_in changes)) _ faults.Row
      (after_keeps (handle_for text) _ (λ h. at_row_keeps h _ (λ row. after_keeps (or_fault faults.Overflow (edited_row t.shape.columns (set_in changes) (added_in changes) row)) _ (change_row_keeps rollback h))))
  change_keeps (commands.ModifyKey table name text values rollback) =
      after_keeps (whole_key_for t.shape name values) _ (λ key. after_keeps (handle_for text) _ (λ h. at_row_keeps h _ (λ row. change_row_keeps rollback h (keyed_row (parts_at (keys_of t.shape) key.0) key.1 row))))
  change_keeps (commands.Erase table text None) = erase_keeps text None
  change_keeps (commands.Erase table text (Some name)) = after_keeps (index_named kinds.Walked t.shape.indices name) _ (λ index. erase_keeps text (Some index))
  change_keeps (commands.EraseKey table name values) = after_keeps (key_for t.shape kinds.Keyed name values) _ (λ key. changed_keeps (erase_key_refusal t.records key.0) _ _)
  change_keeps (commands.Clear table) = changed_keeps (spent t.records) _ _
  change_keeps (commands.Move table name text place) =
      after_keeps (record_for kinds.Sequence t.shape.indices name text) _ (λ at. changed_keeps (relocate_refusal t.records at.0 place at.1) _ _)
  change_keeps (commands.Rearrange table name texts) =
      in_sequence name _ (λ index. after_keeps (or_fault faults.Handle (spelled texts)) _ (λ handles. changed_keeps (rearrange_refusal t.records index handles) _ _))
  change_keeps (commands.Sort table name names) =
      in_sequence name _ (λ index. after_keeps (or_fault faults.Key (parts_named t.shape.columns names)) _ (λ parts. changed_keeps (sequence_refusal t.records index) _ _))
  change_keeps (commands.Reverse table name) = in_sequence name _ (λ index. changed_keeps (sequence_refusal t.records index) _ _)
  change_keeps (commands.AddIndex table name kind unique key) =
      after_keeps (or_fault faults.Definition (defined t.shape.columns t.shape.indices (record { name = name; kind = kind; unique = unique; key = key }))) _
      (λ index. reindexed_keeps (with_index t.shape index) (add_refusal t index) _ (with_table_index t index) (record { name = refl; max = refl; columns = refl; place = refl; tables = refl }))
  change_keeps (commands.DropIndex table name) =
      after_keeps (index_named kinds.All t.shape.indices name) _ (λ index. reindexed_keeps t.shape (drop_index_refusal t.records) _ (without_table_index t index) (record { name = refl; max = refl; columns = refl; place = refl; tables = refl }))
  change_keeps read = refused_keeps faults.Command

-- and so is the table that was left
module _ (before after : List ℕ) (t new : TableState) (step : Step) (keeps : KeepsUnlessWritten t step) where
  not_written : (outcome : Outcome) → (outcome ≡ outcomes.Write → ⊥) → Took outcome before after new step → new ≡ t
  not_written outcome unwritten took = took.table ∙ keeps.table (λ e. unwritten (sym took.kind ∙ e))

  pub steps_unwritten : (outcome : Outcome) → Steps outcome before after t new step → (outcome ≡ outcomes.Write → ⊥) → new ≡ t
  steps_unwritten outcomes.Write steps unwritten = absurd (unwritten refl)
  steps_unwritten outcomes.Read steps unwritten = not_written outcomes.Read unwritten steps
  steps_unwritten outcomes.Refusal steps unwritten = not_written outcomes.Refusal unwritten steps
  steps_unwritten outcomes.Memory steps unwritten = steps.1

  pub steps_declared : (outcome : Outcome) → Steps outcome before after t new step → IsOfSameTable new.shape t.shape
  steps_declared outcomes.Write steps = subst (λ s. IsOfSameTable s.shape t.shape) (sym steps.table) keeps.declared
  steps_declared outcomes.Read steps = subst (λ s. IsOfSameTable s.shape t.shape) (sym steps.table) keeps.declared
  steps_declared outcomes.Refusal steps = subst (λ s. IsOfSameTable s.shape t.shape) (sym steps.table) keeps.declared
  steps_declared outcomes.Memory steps = subst (λ s. IsOfSameTable s.shape t.shape) (sym steps.1) (same_declaration t.shape)
