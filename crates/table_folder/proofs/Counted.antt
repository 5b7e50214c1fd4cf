-- Each accepted write counts one.
use Rattle.std.proofs.Common.{◌≡◌, ℕ, ◌+◌, Bool, true, false, cond, Option, Some, None, Result, Ok, Err, List, refl}
use Rattle.std.specs.Prelude.{bytes_eq}
use Rattle.std.specs.Option.{option_map_or}
use Rattle.container_model.specs.Change.{erase_key_refusal, erase_refusal, modify_refusal, replace_refusal, spent, with_erased, with_replaced}
use Rattle.container_model.specs.Find.{counted, found, found_lower, found_range, found_rank, found_upper, lower_rank, nth, place, project_next, project_prev, rank, upper_rank}
use Rattle.container_model.specs.Indices.{drop_index_refusal}
use Rattle.container_model.specs.Insert.{At, ban}
use Rattle.container_model.specs.Sequence.{rearrange_refusal, relocate_refusal, sequence_refusal}
use Rattle.container_model.specs.State.{State, row_of}
use Rattle.container_model.specs.declared.handle.Handle.{Handle}
use Rattle.container_model.specs.declared.refusal.Why.{Why}
use Rattle.key_extract.specs.Keys.{parts_at}
use Rattle.table_changes.specs.Change.{change_step, is_change}
use Rattle.table_changes.specs.Changes.{clear_step, erase_probe, erase_record, erase_text, insert_fields, insert_row, replace_row}
use Rattle.table_changes.specs.Indices.{add_defined, drop_at}
use Rattle.table_changes.specs.Modify.{at_row, change_row, edit_record, modify_row, put_key}
use Rattle.table_changes.specs.Moves.{move_record, parts_named, rearrange_in, reverse_in, sort_in}
use Rattle.table_cmd.specs.Command.{added_in, set_in, table_in}
use Rattle.table_cmd.specs.declared.command.Command.{Command}
use Rattle.table_cmd.specs.declared.command.Command.TheVariants as commands
use Rattle.table_cmd.specs.declared.command.Field.{Field}
use Rattle.table_cmd.specs.declared.command.HandleText.{HandleText}
use Rattle.table_cmd.specs.declared.command.KeyBound.{KeyBound}
use Rattle.table_reads.specs.Positions.{position_step}
use Rattle.table_reads.specs.Ranges.{edge_at, range_in, range_step, shown_by}
use Rattle.table_reads.specs.Read.{read_step}
use Rattle.table_reads.specs.Reads.{counted_by, found_by, get_record, get_step, list_step, listed_row, show_handles}
use Rattle.table_reads.specs.Searches.{search_probe}
use Rattle.table_records.specs.Changes.{refusal_at}
use Rattle.table_records.specs.Reindexed.{add_refusal, with_table_index, without_table_index}
use Rattle.table_reply.specs.Answer.{Answer, shown}
use Rattle.table_reply.specs.declared.fault.Fault.{Fault}
use Rattle.table_reply.specs.declared.fault.Fault.TheVariants as faults
use Rattle.table_schema.specs.Defined.{defined, with_index}
use Rattle.table_schema.specs.Shape.{TableShape}
use Rattle.table_step.specs.Step.{step_at, step_of}
use Rattle.table_terms.specs.Bounds.{bounds_at}
use Rattle.table_terms.specs.Edits.{edited_row, is_edit, keyed_row}
use Rattle.table_terms.specs.Step.{Step, changed, refused, reindexed, then_step, told}
use Rattle.table_terms.specs.Table.{Cells, Keys, TableState, keys_of, probe_order, row_order}
use Rattle.table_terms.specs.Words.{handle_for, index_named, key_for, or_fault, position_for, record_for, spelled, whole_key_for}
use Rattle.table_terms.specs.declared.kinds.Kinds.TheVariants as kinds
use Rattle.table_terms.specs.declared.outcome.Outcome.TheVariants as outcomes

-- where the step is an accepted write, the table that it leaves has counted one more
abbrev pub Counts : TableState → Step → Type 0
Counts t step = step.outcome ≡ outcomes.Write → step.table.records.writes ≡ t.records.writes + 1

module _ (t : TableState) where
  -- ---- steps

  refused_counts : (why : Fault) → Counts t (refused t why)
  refused_counts why write = cc

  after_counts : {X : Type 0} (r : Result X Fault) (step : X → Step) → ((x : X) → Counts t (step x)) → Counts t (then_step t r step)
  after_counts (Ok x) step each = each x
  after_counts (Err why) step each = refused_counts why

  tested_counts : (b : Bool) (one other : Step) → Counts t one → Counts t other → Counts t (cond b one other)
  tested_counts true one other here there = here
  tested_counts false one other here there = there

  changed_counts : (refusal : Option Why) (answer : Answer) (records : State Keys Cells) → records.writes ≡ t.records.writes + 1 → Counts t (changed t refusal answer records)
  changed_counts None answer records one write = one
  changed_counts (Some why) answer records one write = cc

  reindexed_counts : (names : TableShape) (refusal : Option Why) (answer : Answer) (new : TableState) → new.records.writes ≡ t.records.writes + 1 → Counts t (reindexed t names refusal answer new)
  reindexed_counts names None answer new one write = one
  reindexed_counts names (Some why) answer new one write = cc

  -- ---- changes

  row_counts : (at : At) (fields : List Field) → Counts t (insert_fields t at fields)
  unfolding insert_row
  row_counts at fields = after_counts _ _ (λ row. changed_counts (refusal_at t at row) _ _ refl)

  -- a record that changes, or is lost
  modified_counts : (h : Handle) (row : Cells) (o : Option (ℕ × Handle)) → (option_map_or (λ (at : ℕ × Handle). with_erased t.records h) o (with_replaced row_order t.records h row)).writes ≡ t.records.writes + 1
  modified_counts h row None = refl
  modified_counts h row (Some at) = refl

  change_row_counts : (rollback : Bool) (h : Handle) (row : Cells) → Counts t (change_row t rollback h row)
  unfolding replace_row modify_row
  change_row_counts true h row = changed_counts (replace_refusal row_order t.records h row) _ _ refl
  change_row_counts false h row = changed_counts (modify_refusal t.records h) _ _ (modified_counts h row (ban row_order t.records (Some h) row))

  at_row_counts : (h : Handle) (step : Cells → Step) → ((row : Cells) → Counts t (step row)) → Counts t (at_row t h step)
  at_row_counts h step each = after_counts (or_fault faults.Handle (row_of t.records.entries h)) step each

  erase_counts : (text : HandleText) (index : Option ℕ) → Counts t (erase_text t text index)
  unfolding erase_record
  erase_counts text index = after_counts (handle_for text) _ (λ h. changed_counts (erase_refusal t.records h index) _ _ refl)

  in_sequence : (name : List ℕ) (step : ℕ → Step) → ((index : ℕ) → Counts t (step index)) → Counts t (then_step t (index_named kinds.Sequence t.shape.indices name) step)
  in_sequence name step each = after_counts (index_named kinds.Sequence t.shape.indices name) step each

  change_counts : (command : Command) → Counts t (change_step t command)
  unfolding replace_row edit_record put_key erase_probe clear_step move_record rearrange_in sort_in reverse_in add_defined drop_at
  change_counts (commands.Insert table fields None) = row_counts None fields
  change_counts (commands.Insert table fields (Some position)) = in_sequence position.index _ (λ index. row_counts (Some (index, position.place)) fields)
  change_counts (commands.Replace table text fields) =
      after_counts _ _ (λ row. after_counts (handle_for text) _ (λ h. changed_counts (replace_refusal row_order t.records h row) _ _ refl))
  change_counts (commands.Modify table text changes rollback) =
      tested_counts (is_edit t.shape.columns (set_in changes) (added_in changes)) _ (refused t faults.Row)
      (after_counts (handle_for text) _ (λ h. at_row_counts h _ (λ row. after_counts (or_fault faults.Overflow (edited_row t.shape.columns (set_in changes) (added_in changes) row)) _ (change_row_counts rollback h))))
      (refused_counts faults.Row)
  change_counts (commands.ModifyKey table name text values rollback) =
      after_counts (whole_key_for t.shape name values) _ (λ key. after_counts (handle_for text) _ (λ h. at_row_counts h _ (λ row.
      change_row_counts rollback h (keyed_row (parts_at (keys_of t.shape) key.0) key.1 row))))
  change_counts (commands.Erase table text None) = erase_counts text None
  change_counts (commands.Erase table text (Some name)) = after_counts (index_named kinds.Walked t.shape.indices name) _ (λ index. erase_counts text (Some index))
  change_counts (commands.EraseKey table name values) =
      after_counts (key_for t.shape kinds.Keyed name values) _ (λ key. changed_counts (erase_key_refusal t.records key.0) _ _ refl)
  change_counts (commands.Clear table) = changed_counts (spent t.records) _ _ refl
  change_counts (commands.Move table name text place) =
      after_counts (record_for kinds.Sequence t.shape.indices name text) _ (λ at. changed_counts (relocate_refusal t.records at.0 place at.1) _ _ refl)
  change_counts (commands.Rearrange table name texts) =
      in_sequence name _ (λ index. after_counts (or_fault faults.Handle (spelled texts)) _ (λ handles. changed_counts (rearrange_refusal t.records index handles) _ _ refl))
  change_counts (commands.Sort table name names) =
      in_sequence name _ (λ index. after_counts (or_fault faults.Key (parts_named t.shape.columns names)) _ (λ parts. changed_counts (sequence_refusal t.records index) _ _ refl))
  change_counts (commands.Reverse table name) = in_sequence name _ (λ index. changed_counts (sequence_refusal t.records index) _ _ refl)
  change_counts (commands.AddIndex table name kind unique key) =
      after_counts (or_fault faults.Definition (defined t.shape.columns t.shape.indices (record { name = name; kind = kind; unique = unique; key = key }))) _
      (λ index. reindexed_counts (with_index t.shape index) (add_refusal t index) _ (with_table_index t index) refl)
  change_counts (commands.DropIndex table name) =
      after_counts (index_named kinds.All t.shape.indices name) _ (λ index. reindexed_counts t.shape (drop_index_refusal t.records) _ (without_table_index t index) refl)
  change_counts read = refused_counts faults.Command

  -- ---- reads, none of which is a write

  found_counts : (r : Result (Option Handle) Why) → Counts t (found_by t r)
  found_counts (Ok h) write = cc
  found_counts (Err why) write = cc

  counted_counts : (r : Result ℕ Why) → Counts t (counted_by t r)
  counted_counts (Ok n) write = cc
  counted_counts (Err why) write = cc

  shown_counts : (r : Result (List Handle) Why) → Counts t (shown_by t r)
  unfolding show_handles
  shown_counts (Ok handles) write = cc
  shown_counts (Err why) write = cc

  shown_row_counts : (o : Option Cells) (answer : Cells → Answer) → Counts t (option_map_or (λ row. told t (answer row)) o (refused t faults.Handle))
  shown_row_counts None answer write = cc
  shown_row_counts (Some row) answer write = cc

  get_counts : (text : HandleText) → Counts t (get_step t text)
  unfolding get_record
  get_counts text = after_counts (handle_for text) _ (λ h. shown_row_counts (row_of t.records.entries h) (λ row. shown t.records.writes (listed_row t h row)))

  list_counts : (name : List ℕ) → Counts t (list_step t name)
  unfolding show_handles
  list_counts name = after_counts (index_named kinds.All t.shape.indices name) _ (λ at write. cc)

  range_counts : (name : List ℕ) (low high : KeyBound) → Counts t (range_step t name low high)
  unfolding range_in
  range_counts name low high =
      after_counts (index_named kinds.Sorted t.shape.indices name) _ (λ at.
      after_counts (or_fault faults.Key (bounds_at t.shape at low high)) _ (λ b. shown_counts (found_range t.records at (edge_at t at b.0) (edge_at t at b.1))))

  position_counts : (command : Command) → Counts t (position_step t command)
  position_counts (commands.Nth table index n) = after_counts (index_named kinds.Counted t.shape.indices index) _ (λ at. found_counts (nth t.records at n))
  position_counts (commands.Rank table index position) = after_counts (position_for kinds.Ranked t.shape.indices index position) _ (λ at. counted_counts (rank t.records at.0 at.1))
  position_counts (commands.Place table index handle) = after_counts (record_for kinds.Random t.shape.indices index handle) _ (λ at. counted_counts (place t.records at.0 at.1))
  position_counts (commands.Next table index position) =
      after_counts (position_for kinds.Walked t.shape.indices index position) _ (λ at. found_counts (project_next t.records at.0 at.1))
  position_counts (commands.Prev table index position) =
      after_counts (position_for kinds.Walked t.shape.indices index position) _ (λ at. found_counts (project_prev t.records at.0 at.1))
  position_counts other = refused_counts faults.Command

  read_counts : (command : Command) → Counts t (read_step t command)
  unfolding search_probe
  read_counts (commands.Get table handle) = get_counts handle
  read_counts (commands.Size table) = λ write. cc
  read_counts (commands.Find table index key) = after_counts (key_for t.shape kinds.Keyed index key) _ (λ at. found_counts (found probe_order t.records at.0 at.1))
  read_counts (commands.Count table index key) = after_counts (key_for t.shape kinds.Keyed index key) _ (λ at. counted_counts (counted probe_order t.records at.0 at.1))
  read_counts (commands.Lower table index key) = after_counts (key_for t.shape kinds.Sorted index key) _ (λ at. found_counts (found_lower probe_order t.records at.0 at.1))
  read_counts (commands.Upper table index key) = after_counts (key_for t.shape kinds.Sorted index key) _ (λ at. found_counts (found_upper probe_order t.records at.0 at.1))
  read_counts (commands.Range table index low high) = range_counts index low high
  read_counts (commands.FindRank table index key) = after_counts (key_for t.shape kinds.Ranked index key) _ (λ at. counted_counts (found_rank probe_order t.records at.0 at.1))
  read_counts (commands.LowerRank table index key) = after_counts (key_for t.shape kinds.Ranked index key) _ (λ at. counted_counts (lower_rank probe_order t.records at.0 at.1))
  read_counts (commands.UpperRank table index key) = after_counts (key_for t.shape kinds.Ranked index key) _ (λ at. counted_counts (upper_rank probe_order t.records at.0 at.1))
  read_counts (commands.List table index) = list_counts index
  read_counts other = position_counts other

  -- ---- each command

  pub step_counts : (command : Command) → Counts t (step_of t command)
  unfolding step_of
  step_counts command =
      tested_counts (bytes_eq (table_in command) t.shape.name) (step_at t command) (refused t faults.Table)
      (tested_counts (is_change command) (change_step t command) (read_step t command) (change_counts command) (read_counts command)) (refused_counts faults.Table)
