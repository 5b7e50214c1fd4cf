-- The values of a command as cells of a table.
use Rattle.std.specs.Prelude.{ℕ, ◌==◌, Bool, true, false, ◌&&◌, ◌||◌, not, if◌then◌else◌, List, [], ◌∷◌, length, find, Option, Some, None, option_map, option_and_then, unwrap_or, slice_get, nat_le, bytes_eq}
use Rattle.container_model.specs.State.{is_hashed_kind}
use Rattle.key_extract.specs.declared.cell.Cell.{Cell}
use Rattle.key_extract.specs.declared.cell.Cell.TheVariants as cells
use Rattle.key_extract.specs.declared.key.Part.{Part}
use Rattle.table_cmd.specs.declared.command.Value.{Value}
use Rattle.table_cmd.specs.declared.command.Value.TheVariants as values
use Rattle.table_cmd.specs.declared.command.Field.{Field}
use Rattle.table_schema.specs.declared.column.CellKind.{CellKind}
use Rattle.table_schema.specs.declared.column.CellKind.TheVariants as kinds
use Rattle.table_schema.specs.declared.column.Column.{Column}
use Rattle.table_schema.specs.declared.column.IndexSpec.{IndexSpec}

-- the longest text of a cell, in bytes
abbrev pub max_text : ℕ
max_text = 4096

-- whether a cell is of the type, and no longer than a cell may be; null is of none
abbrev pub is_cell_of : CellKind → Cell → Bool
is_cell_of kind cells.Null = false
is_cell_of kinds.Int (cells.Int n) = true
is_cell_of kinds.Int (cells.Text s) = false
is_cell_of kinds.Int (cells.Bool b) = false
is_cell_of kinds.Text (cells.Int n) = false
is_cell_of kinds.Text (cells.Text s) = nat_le (length s) max_text
is_cell_of kinds.Text (cells.Bool b) = false
is_cell_of kinds.Bool (cells.Int n) = false
is_cell_of kinds.Bool (cells.Text s) = false
is_cell_of kinds.Bool (cells.Bool b) = true

-- whether a cell is null
abbrev pub is_null : Cell → Bool
is_null cells.Null = true
is_null other = false

-- whether a column can hold a cell: one of its type, or null where it may be null
abbrev pub can_hold : Column → Cell → Bool
can_hold column c = (column.null && is_null c) || is_cell_of column.cell c

-- the cell that a value is in a column
abbrev pub cell_for : Column → Value → Option Cell
cell_for column values.Other = None
cell_for column (values.Cell c) = if can_hold column c then Some c else None

-- the value under a name
abbrev pub value_named : List ℕ → List Field → Option Value
value_named name fields = option_map (λ f. f.value) (find (λ f. bytes_eq f.name name) fields)

-- the cell that the fields give a column
abbrev pub column_cell : Column → List Field → Option Cell
column_cell column fields = option_and_then (cell_for column) (value_named column.name fields)

infixl 10 ◌>>=◌
abbrev pub ◌>>=◌ : {A B : Type 0} → Option A → (A → Option B) → Option B
o >>= f = option_and_then f o

-- the cells that the fields give the columns, where each has one
abbrev pub column_cells : List Field → List Column → Option (List Cell)
column_cells fields [] = Some []
column_cells fields (column ∷ columns) = do
  cell ← column_cell column fields
  cells ← column_cells fields columns
  Some (cell ∷ cells)

-- The row that the fields are: as many as there are columns, with a cell for each. The names of columns are distinct,
-- so each field is then a column's, and none stands twice.
unfoldable pub row_from : List Column → List Field → Option (List Cell)
row_from columns fields = if length fields == length columns then column_cells fields columns else None

-- the cells that values are at the parts of a key, the first ones first
abbrev pub part_cells : List Column → List Part → List Value → Option (List Cell)
part_cells columns parts [] = Some []
part_cells columns [] (value ∷ values) = None
part_cells columns (part ∷ parts) (value ∷ values) = do
  column ← slice_get columns part.column
  cell ← cell_for column value
  cells ← part_cells columns parts values
  Some (cell ∷ cells)

abbrev pub parts_of : IndexSpec → List Part
parts_of index = unwrap_or index.key []

-- whether so many values can search the index: some, and all that its key has where it is hashed
abbrev pub are_enough : IndexSpec → ℕ → Bool
are_enough index count = nat_le 1 count && (not (is_hashed_kind index.kind) || (count == length (parts_of index)))

-- the search key that the values are at an index
unfoldable pub probe_from : List Column → IndexSpec → List Value → Option (List Cell)
probe_from columns index values = if are_enough index (length values) then part_cells columns (parts_of index) values else None
