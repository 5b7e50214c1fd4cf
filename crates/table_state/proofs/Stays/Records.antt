-- A table that can stand still can after each write of its records.
use Rattle.std.proofs.Common.{◌≡◌, ℕ, ◌<◌, ◌==◌, Bool, true, false, List, [], ◌∷◌, ◌++◌, length, Option, Some, None, refl, ap, ◌∙◌, arith}
use Rattle.std.specs.Prelude.{filter, not}
use Rattle.std.specs.Ordering.{is_eq}
use Rattle.std.specs.Option.{option_map_or}
use Rattle.std.proofs.lemmas.List.{length-map}
use Rattle.container_model.specs.declared.handle.Entry.{Entry}
use Rattle.container_model.specs.declared.handle.Handle.{Handle}
use Rattle.container_model.specs.declared.refusal.Why.TheVariants.{Banned, Full, Kind, Order, Place, Stale}
use Rattle.container_model.specs.Change.{erase_key_refusal, erase_refusal, modify_refusal, replace_refusal, spent, with_erased, with_only, with_replaced}
use Rattle.container_model.specs.Find.{is_live, probe_side}
use Rattle.container_model.specs.Insert.{At, ban, insert_refusal, limit, new_handle, with_inserted}
use Rattle.container_model.specs.Sequence.{rearrange_refusal, relocate_refusal, sequence_refusal}
use Rattle.container_model.specs.State.{is_handle}
use Rattle.container_model.proofs.Erased.{IsState-cleared, IsState-only}
use Rattle.container_model.proofs.Handles.{IsState-entered}
use Rattle.container_model.proofs.Inserted.{room_from_none}
use Rattle.container_model.proofs.Moved.{IsState-rearranged, IsState-relocated, IsState-reversed, IsState-sorted}
use Rattle.container_model.proofs.Replaced.{IsState-replaced}
use Rattle.key_extract.specs.declared.key.Part.{Part}
use Rattle.key_extract.specs.Keys.{key_cmp}
use Rattle.table_changes.specs.Changes.{clear_step, erase_probe, erase_record, insert_row, replace_row}
use Rattle.table_changes.specs.Modify.{change_row, modify_row}
use Rattle.table_changes.specs.Moves.{move_record, rearrange_in, reverse_in, sort_in}
use Rattle.table_records.specs.Changes.{refusal_at}
use Rattle.table_schema.specs.declared.column.Column.{Column}
use Rattle.table_state.specs.Standing.{CanStand, RowFits}
use Rattle.table_terms.specs.Table.{Cells, TableState, probe_order, row_order, spec_of}
use Rattle.table_state.proofs.Stays.Entries.{last_entered, last_filtered, last_with_row, slot_within}
use Rattle.table_state.proofs.Stays.Writes.{all_last, changed_stands, has_key, nothing_found, rows_total, test_fails, test_passes, written_stands}

module _ (t : TableState) (stands : CanStand t) where
  abbrev columns : List Column
  columns = t.shape.columns

  abbrev entries : List (Entry Cells)
  entries = t.records.entries

  -- ---- insertion

  refused_none : (at : At) (row : Cells) → refusal_at t at row ≡ None → insert_refusal row_order t.records row ≡ None
  refused_none None row e = e
  refused_none (Some at) row e = (test_passes _ _ Place (test_passes _ _ Kind e).1).1

  entered_stands : (at : At) (row : Cells) → RowFits columns row → insert_refusal row_order t.records row ≡ None → CanStand (record t { records = with_inserted row_order t.records at row })
  entered_stands at row fits e =
      let allowed = nothing_found (λ (by : ℕ × Handle). Banned by.0 by.1) (ban row_order t.records None row) (limit t.records) e in
      let room = room_from_none t.records (ban row_order t.records None row) e stands.kept.within_max in
      let free = test_fails (length entries == t.records.max) (spent t.records) Full allowed.1 in
      let within : length entries < t.shape.max = omega (arith, room.1, stands.max) in
      let new : Entry Cells = record { handle = new_handle t.records; row = row } in
      written_stands t stands (entries ++ new ∷ []) _ free.1
      (last_entered columns t.shape.max entries new (all_last t stands) (omega arith, slot_within entries t.shape.max within, fits))
      (IsState-entered has_key row_order t.records rows_total at row allowed.0 room.1 stands.kept)

  pub inserted_stands : (at : At) (row : Cells) → RowFits columns row → CanStand (insert_row t at row).table
  unfolding insert_row
  inserted_stands at row fits = changed_stands t stands (refusal_at t at row) _ _ (λ e. entered_stands at row fits (refused_none at row e))

  -- ---- other rows

  row_stands : (h : Handle) (row : Cells) → RowFits columns row → is_live t.records h ≡ true → ban row_order t.records (Some h) row ≡ None → spent t.records ≡ None →
      CanStand (record t { records = with_replaced row_order t.records h row })
  row_stands h row fits live allowed free =
      written_stands t stands _ _ free (last_with_row columns t.shape.max h row entries fits (all_last t stands))
      (IsState-replaced has_key row_order rows_total t.records h row stands.kept live allowed)

  pub replaced_stands : (h : Handle) (row : Cells) → RowFits columns row → CanStand (replace_row t h row).table
  unfolding replace_row
  replaced_stands h row fits = changed_stands t stands (replace_refusal row_order t.records h row) _ _ (λ e.
      let live = test_passes (is_live t.records h) _ Stale e in
      let allowed = nothing_found (λ (by : ℕ × Handle). Banned by.0 by.1) (ban row_order t.records (Some h) row) (spent t.records) live.1 in
      row_stands h row fits live.0 allowed.0 allowed.1)

  -- ---- fewer records

  left_stands : (keep : Handle → Bool) → spent t.records ≡ None → CanStand (record t { records = with_only keep t.records })
  left_stands keep free =
      written_stands t stands (filter (λ e. keep e.handle) entries) _ free (last_filtered columns t.shape.max (λ e. keep e.handle) entries (all_last t stands))
      (IsState-only has_key row_order t.records stands.kept keep)

  pub modified_stands : (h : Handle) (row : Cells) → RowFits columns row → CanStand (modify_row t h row).table
  unfolding modify_row
  modified_stands h row fits = changed_stands t stands (modify_refusal t.records h) _ _ (λ e.
      by (ban row_order t.records (Some h) row) refl (test_passes (is_live t.records h) (spent t.records) Stale e))
    where
      by : (o : Option (ℕ × Handle)) → ban row_order t.records (Some h) row ≡ o → (is_live t.records h ≡ true) × (spent t.records ≡ None) →
          CanStand (record t { records = option_map_or (λ at. with_erased t.records h) o (with_replaced row_order t.records h row) })
      by None allowed live = row_stands h row fits live.0 allowed live.1
      by (Some at) banned live = left_stands (λ g. not (is_handle h g)) live.1

  pub change_row_stands : (rollback : Bool) (h : Handle) (row : Cells) → RowFits columns row → CanStand (change_row t rollback h row).table
  change_row_stands true h row fits = replaced_stands h row fits
  change_row_stands false h row fits = modified_stands h row fits

  pub erased_stands : (index : Option ℕ) (h : Handle) → CanStand (erase_record t index h).table
  unfolding erase_record
  erased_stands index h = changed_stands t stands (erase_refusal t.records h index) _ _ (λ e.
      left_stands (λ g. not (is_handle h g)) (test_passes (is_live t.records h) _ Stale (test_fails _ _ Kind e).1).1)

  pub key_erased_stands : (index : ℕ) (probe : Cells) → CanStand (erase_probe t index probe).table
  unfolding erase_probe
  key_erased_stands index probe = changed_stands t stands (erase_key_refusal t.records index) _ _ (λ e.
      left_stands (λ g. not (is_eq (probe_side probe_order t.records index probe g))) (test_passes _ _ Kind e).1)

  pub cleared_stands : CanStand (clear_step t).table
  unfolding clear_step
  cleared_stands = changed_stands t stands (spent t.records) _ _ (λ free. written_stands t stands [] _ free tt (IsState-cleared has_key row_order t.records stands.kept))

  -- ---- other orders

  module _ (index : ℕ) (declared : index < length t.shape.indices) where
    within : index < length t.records.specs
    within =
        let many : length t.records.specs ≡ length t.shape.indices = ap length stands.indices.specs ∙ length-map t.shape.indices spec_of in
        omega (arith, declared, many)

    pub moved_stands : (place : ℕ) (h : Handle) → CanStand (move_record t index place h).table
    unfolding move_record
    moved_stands place h = changed_stands t stands (relocate_refusal t.records index place h) _ _ (λ e.
        let sequence = test_passes _ _ Kind e in
        let live = test_passes (is_live t.records h) _ Stale sequence.1 in
        let free = test_passes _ (spent t.records) Place live.1 in
        written_stands t stands entries _ free.1 (all_last t stands) (IsState-relocated has_key row_order t.records index sequence.0 stands.kept h place within live.0))

    pub rearranged_stands : (handles : List Handle) → CanStand (rearrange_in t index handles).table
    unfolding rearrange_in
    rearranged_stands handles = changed_stands t stands (rearrange_refusal t.records index handles) _ _ (λ e.
        let sequence = test_passes _ _ Kind e in
        let each = test_passes _ (spent t.records) Order (test_passes _ _ Stale sequence.1).1 in
        written_stands t stands entries _ each.1 (all_last t stands) (IsState-rearranged has_key row_order t.records index sequence.0 stands.kept handles within each.0))

    pub reversed_stands : CanStand (reverse_in t index).table
    unfolding reverse_in
    reversed_stands = changed_stands t stands (sequence_refusal t.records index) _ _ (λ e.
        let sequence = test_passes _ (spent t.records) Kind e in
        written_stands t stands entries _ sequence.1 (all_last t stands) (IsState-reversed has_key row_order t.records index sequence.0 stands.kept))

    pub sorted_stands : (parts : List Part) → CanStand (sort_in t index parts).table
    unfolding sort_in
    sorted_stands parts = changed_stands t stands (sequence_refusal t.records index) _ _ (λ e.
        let sequence = test_passes _ (spent t.records) Kind e in
        written_stands t stands entries _ sequence.1 (all_last t stands) (IsState-sorted has_key row_order t.records index sequence.0 stands.kept (key_cmp parts)))
