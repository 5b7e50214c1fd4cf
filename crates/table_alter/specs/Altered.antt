-- A table under another declaration.
use Rattle.std.specs.Prelude.{◌≡◌, ℕ, ◌<◌, List, [], length, map, find, get_or, nat_le, true, false, Option, Some, None, option_map}
use Rattle.std.specs.List.{AllByRecursion}
use Rattle.command_lines.specs.Fits.{CellFits}
use Rattle.container_model.specs.declared.handle.Entry.{Entry}
use Rattle.container_model.specs.declared.handle.Handle.{Handle}
use Rattle.container_model.specs.declared.handle.Kind.TheVariants.{Sequenced}
use Rattle.container_model.specs.declared.refusal.Why.{Why}
use Rattle.container_model.specs.declared.refusal.Why.TheVariants as whys
use Rattle.container_model.specs.Indices.{clash_from, new_list}
use Rattle.container_model.specs.State.{list_at, row_of}
use Rattle.key_extract.specs.Keys.{key_cmp}
use Rattle.linked_set.specs.Restored.{restored}
use Rattle.table_alter.specs.declared.fault.Unalterable.{Unalterable}
use Rattle.table_alter.specs.declared.fault.Unalterable.TheVariants.{Memory, Full, Slot, Cell, Clash, Unfit}
use Rattle.table_alter.specs.declared.source.Fill.{Fill}
use Rattle.table_alter.specs.declared.source.Source.{Source}
use Rattle.table_alter.specs.Same.{place_before}
use Rattle.table_alter.specs.Sources.{entry_from, first_unheld, row_from, sources_of}
use Rattle.table_records.specs.declared.reindex.NotAdded.{NotAdded}
use Rattle.table_records.specs.declared.reindex.NotAdded.TheVariants as not_added
use Rattle.table_schema.specs.declared.column.Column.{Column}
use Rattle.table_schema.specs.declared.column.IndexSpec.{IndexSpec}
use Rattle.table_schema.specs.Shape.{TableShape}
use Rattle.table_terms.specs.Table.{Cells, TableState, keys_of, specs_of}
use Rattle.table_terms.specs.Values.{parts_of}

-- the order that a new index has, as one that is added to a table of these records
abbrev pub new_order : List (Entry Cells) → IndexSpec → List Handle
new_order entries index = new_list (key_cmp (parts_of index)) entries index.kind

-- an index that stays keeps its order
abbrev pub order_from : TableState → List (Entry Cells) → Option ℕ → IndexSpec → List Handle
order_from t entries (Some place) index = list_at t.records.lists place
order_from t entries None index = new_order entries index

abbrev pub order_of : TableState → TableShape → List (Entry Cells) → IndexSpec → List Handle
order_of t after entries index = order_from t entries (place_before t.shape after index) index

-- the records with the columns of a declaration
abbrev pub entries_of : TableState → TableShape → List Fill → List (Entry Cells)
entries_of t after fills = map (entry_from (sources_of t.shape.columns fills after.columns)) t.records.entries

-- the table under a declaration: each record with exactly its columns, under its own handle, and the same number of the last write
abbrev pub altered_table : TableState → TableShape → List Fill → TableState
altered_table t after fills = record {
  shape = after;
  records = restored 8 after.max t.records.writes (keys_of after) (specs_of after) (entries_of t after fills) (map (order_of t after (entries_of t after fills)) after.indices);
}

-- the values are such as a line can say
abbrev pub FillsFit : List Fill → Type 0
FillsFit fills = AllByRecursion (λ f. CellFits f.cell) fills

-- each record has cells that its columns can hold
abbrev pub AreHeld : TableShape → List (Entry Cells) → Type 0
AreHeld after entries = AllByRecursion (λ e. first_unheld after.columns e.row ≡ None) entries

-- why records can't have these columns: one has a cell that its column can't hold
abbrev pub IsUnheldRow : List (Entry Cells) → List Column → List Source → Unalterable → Type 0
IsUnheldRow entries columns sources Memory = Unit {0}
IsUnheldRow entries columns sources (Cell column handle) = (row : Cells) × (row_of entries handle ≡ Some row) × (first_unheld columns (row_from sources row) ≡ Some column)
IsUnheldRow entries columns sources _ = ⊥

-- the first record that lies in a slot past the first so many
abbrev pub first_beyond : ℕ → List (Entry Cells) → Option Handle
first_beyond max entries = option_map (λ e. e.handle) (find (λ e. nat_le max e.handle.slot) entries)

-- the index of this place
abbrev pub index_at : TableShape → ℕ → IndexSpec
index_at after place = get_or after.indices place (record { name = []; kind = Sequenced; unique = false; key = None })

-- why a new index is not added: it is unique, and the second of these records is the oldest that has the key of an older one, the first
abbrev pub IsClash : List (Entry Cells) → ℕ → IndexSpec → Unalterable → Type 0
IsClash entries place index Memory = Unit {0}
IsClash entries place index (Clash at first second) = (at ≡ place) × (index.unique ≡ true) × (clash_from (key_cmp (parts_of index)) [] entries ≡ Some (first, second))
IsClash entries place index Unfit = Unit {0}
IsClash entries place index _ = ⊥

-- the same of one of the indices
abbrev pub IsSomeClash : List (Entry Cells) → TableShape → Unalterable → Type 0
IsSomeClash entries after why = (place : ℕ) × (place < length after.indices) × IsClash entries place (index_at after place) why

-- why an index is not added
abbrev pub of_why : ℕ → Why → Unalterable
of_why place whys.Memory = Memory
of_why place (whys.Clash first second) = Clash place first second
of_why place _ = Unfit

abbrev pub of_not_added : ℕ → NotAdded → Unalterable
of_not_added place not_added.Memory = Memory
of_not_added place (not_added.Refused why spec) = of_why place why

-- why a table can't have another declaration
abbrev pub IsWhyNot : TableState → TableShape → List Fill → Unalterable → Type 0
IsWhyNot t after fills Memory = Unit {0}
IsWhyNot t after fills Full = after.max < length t.records.entries
IsWhyNot t after fills (Slot handle) = first_beyond after.max (entries_of t after fills) ≡ Some handle
IsWhyNot t after fills (Cell column handle) = IsUnheldRow t.records.entries after.columns (sources_of t.shape.columns fills after.columns) (Cell column handle)
IsWhyNot t after fills (Clash place first second) = IsSomeClash (entries_of t after fills) after (Clash place first second)
IsWhyNot t after fills Unfit = Unit {0}
