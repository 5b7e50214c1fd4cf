-- The records of a table that can stand: their stamps, their slots and their rows.
use Rattle.std.proofs.Common.{◌≡◌, ℕ, zero, suc, ◌+◌, ◌<◌, ◌≤◌, Bool, true, false, cond, List, [], ◌∷◌, ◌++◌, length, Some, subst, arith}
use Rattle.std.specs.Prelude.{filter, find, option_map}
use Rattle.std.specs.List.{AllByRecursion}
use Rattle.std.proofs.lemmas.Option.{same_Some}
use Rattle.container_model.specs.declared.handle.Entry.{Entry}
use Rattle.container_model.specs.declared.handle.Handle.{Handle}
use Rattle.container_model.specs.Change.{with_row}
use Rattle.container_model.specs.Insert.{free_slot, free_slot_from, is_free}
use Rattle.container_model.specs.State.{is_handle, row_of}
use Rattle.list_model.proofs.Kept.{All-filter}
use Rattle.list_model.proofs.Lists.{All-join}
use Rattle.multi_index.specs.Restored.{AreWithin}
use Rattle.table_schema.specs.declared.column.Column.{Column}
use Rattle.table_state.specs.Standing.{RowFits}
use Rattle.table_terms.specs.Table.{Cells}

-- ---- the slot of a new record

slot_from : {R : Type 0} (entries : List (Entry R)) (slot more : ℕ) → free_slot_from entries slot more ≤ slot + more
slot_from entries slot zero = omega arith
slot_from entries slot (suc more) = by (is_free entries slot) (slot_from entries (slot + 1) more)
  where
    by : (b : Bool) → free_slot_from entries (slot + 1) more ≤ slot + 1 + more → cond b slot (free_slot_from entries (slot + 1) more) ≤ slot + suc more
    by true rest = omega arith
    by false rest = omega (arith, rest)

-- fewer records than there may be leave one of the slots free
pub slot_within : {R : Type 0} (entries : List (Entry R)) (max : ℕ) → length entries < max → free_slot entries < max
slot_within entries max room = omega (arith, slot_from entries 0 (length entries), room)

-- ---- all records

module _ (columns : List Column) (max : ℕ) where
  -- a record that a table of these columns, and of so many records, can have
  abbrev pub Lasts : Entry Cells → Type 0
  Lasts e = (1 ≤ e.handle.stamp) × (e.handle.slot < max) × RowFits columns e.row

  abbrev pub AllLast : List (Entry Cells) → Type 0
  AllLast entries = AllByRecursion Lasts entries

  pub last_together : (entries : List (Entry Cells)) → AllByRecursion (λ e. 1 ≤ e.handle.stamp) entries → AreWithin entries max → AllByRecursion (λ e. RowFits columns e.row) entries → AllLast entries
  last_together [] stamps slots rows = tt
  last_together (e ∷ es) stamps slots rows = ((stamps.0, slots.0, rows.0), last_together es stamps.1 slots.1 rows.1)

  pub stamps_last : (entries : List (Entry Cells)) → AllLast entries → AllByRecursion (λ e. 1 ≤ e.handle.stamp) entries
  stamps_last [] all = tt
  stamps_last (e ∷ es) all = (all.0.0, stamps_last es all.1)

  pub slots_last : (entries : List (Entry Cells)) → AllLast entries → AreWithin entries max
  slots_last [] all = tt
  slots_last (e ∷ es) all = (all.0.1, slots_last es all.1)

  pub rows_last : (entries : List (Entry Cells)) → AllLast entries → AllByRecursion (λ e. RowFits columns e.row) entries
  rows_last [] all = tt
  rows_last (e ∷ es) all = (all.0.2, rows_last es all.1)

  -- with a record more
  pub last_entered : (entries : List (Entry Cells)) (e : Entry Cells) → AllLast entries → Lasts e → AllLast (entries ++ e ∷ [])
  last_entered entries e all new = All-join Lasts entries (e ∷ []) all (new, tt)

  -- with some of them gone
  pub last_filtered : (keep : Entry Cells → Bool) (entries : List (Entry Cells)) → AllLast entries → AllLast (filter keep entries)
  last_filtered keep entries all = All-filter Lasts keep entries all

  -- with another row for one of them
  pub last_with_row : (h : Handle) (row : Cells) (entries : List (Entry Cells)) → RowFits columns row → AllLast entries → AllLast (with_row h row entries)
  last_with_row h row [] fits all = tt
  last_with_row h row (e ∷ es) fits all = (by (is_handle h e.handle) all.0, last_with_row h row es fits all.1)
    where
      by : (b : Bool) → Lasts e → Lasts (cond b (record e { row = row }) e)
      by true lasts = (lasts.0, lasts.1, fits)
      by false lasts = lasts

  -- the row of a handle is one of theirs
  pub row_lasts : (h : Handle) (row : Cells) (entries : List (Entry Cells)) → AllLast entries → row_of entries h ≡ Some row → RowFits columns row
  row_lasts h row [] all e = cc
  row_lasts h row (x ∷ xs) all e = by (is_handle h x.handle) (row_lasts h row xs all.1) e
    where
      by : (b : Bool) → (row_of xs h ≡ Some row → RowFits columns row) → option_map (λ (y : Entry Cells). y.row) (cond b (Some x) (find (λ (y : Entry Cells). is_handle h y.handle) xs)) ≡ Some row → RowFits columns row
      by true later e = subst (RowFits columns) (same_Some x.row row e) all.0.2
      by false later e = later e
