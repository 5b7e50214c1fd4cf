-- What a modification makes of a row.
use Rattle.std.specs.Prelude.{ℕ, ◌+◌, ◌^◌, ℤ, pos, negsuc, ◌+ℤ◌, ◌==◌, nat_lt, Bool, true, false, ◌&&◌, not, if◌then◌else◌, List, [], ◌∷◌, find, position, Option, Some, None, option_map, option_and_then, unwrap_or, is_some, slice_get, bytes_eq}
use Rattle.std.specs.List.{list_all, list_any}
use Rattle.std.specs.Option.{option_map_or}
use Rattle.key_extract.specs.declared.cell.Cell.{Cell}
use Rattle.key_extract.specs.declared.cell.Cell.TheVariants as cells
use Rattle.key_extract.specs.declared.key.Part.{Part}
use Rattle.table_cmd.specs.declared.command.Field.{Field}
use Rattle.table_schema.specs.declared.column.Column.{Column}
use Rattle.table_terms.specs.Values.{◌>>=◌, cell_for, column_cell}

-- the cell that a field is in the column of its name
abbrev pub field_cell : List Column → Field → Option Cell
field_cell columns field = option_and_then (λ column. cell_for column field.value) (find (λ column. bytes_eq column.name field.name) columns)

abbrev pub sets_cell : List Column → Field → Bool
sets_cell columns field = is_some (field_cell columns field)

abbrev pub is_int : Cell → Bool
is_int cells.Null = false
is_int (cells.Int n) = true
is_int (cells.Text s) = false
is_int (cells.Bool b) = false

abbrev pub adds_number : List Column → Field → Bool
adds_number columns field = option_map_or is_int (field_cell columns field) false

-- whether one of the fields has the name
abbrev pub has_name : List ℕ → List Field → Bool
has_name name fields = list_any (λ f. bytes_eq name f.name) fields

-- whether no field has the name of a later one, or of one of the others
abbrev pub stand_once : List Field → List Field → Bool
stand_once [] others = true
stand_once (f ∷ fs) others = (not (has_name f.name fs) && not (has_name f.name others)) && stand_once fs others

-- whether the fields to set are cells of columns, those to add whole numbers of such columns, and no column is named twice
unfoldable pub is_edit : List Column → (set add : List Field) → Bool
is_edit columns set add =
    ((list_all (sets_cell columns) set && list_all (adds_number columns) add) && stand_once set add) && stand_once add []

-- whether a whole number has 64 bits
abbrev pub is_i64 : ℤ → Bool
is_i64 (pos n) = nat_lt n (2 ^ 63)
is_i64 (negsuc n) = nat_lt n (2 ^ 63)

-- the sum of two whole numbers, where it has 64 bits
abbrev pub checked_sum : ℤ → ℤ → Option ℤ
checked_sum a b = if is_i64 (a +ℤ b) then Some (a +ℤ b) else None

-- a whole number with another added to it; any other cell, null among them, as it is
abbrev pub sum_of : Cell → Cell → Option Cell
sum_of cells.Null number = Some cells.Null
sum_of (cells.Int a) cells.Null = Some (cells.Int a)
sum_of (cells.Int a) (cells.Int b) = option_map (λ n. cells.Int n) (checked_sum a b)
sum_of (cells.Int a) (cells.Text s) = Some (cells.Int a)
sum_of (cells.Int a) (cells.Bool b) = Some (cells.Int a)
sum_of (cells.Text s) number = Some (cells.Text s)
sum_of (cells.Bool b) number = Some (cells.Bool b)

-- the cell of a column after the edit: the one that is set, or with what is added, or as it was
abbrev pub edited_cell : (set add : List Field) → Column → Cell → Option Cell
edited_cell set add column cell =
    option_map_or (λ value. Some value) (column_cell column set) (option_map_or (sum_of cell) (column_cell column add) (Some cell))

-- and the cell at a place of the row
abbrev pub edited_at : List Column → (set add : List Field) → ℕ → Cell → Option Cell
edited_at columns set add place cell = option_map_or (λ column. edited_cell set add column cell) (slice_get columns place) (Some cell)

-- the cells from this place on after the edit, where each sum has 64 bits
abbrev pub edited_from : List Column → (set add : List Field) → ℕ → List Cell → Option (List Cell)
edited_from columns set add place [] = Some []
edited_from columns set add place (cell ∷ row) = do
  edited ← edited_at columns set add place cell
  rest ← edited_from columns set add (place + 1) row
  Some (edited ∷ rest)

-- a row after the edit
unfoldable pub edited_row : List Column → (set add : List Field) → List Cell → Option (List Cell)
edited_row columns set add row = edited_from columns set add 0 row

-- the cell of a column with a key put in: the key's, where the column is one of its parts
abbrev pub keyed_cell : List Part → List Cell → ℕ → Cell → Cell
keyed_cell parts key place cell = unwrap_or (option_and_then (slice_get key) (position (λ part. part.column == place) parts)) cell

-- the cells from this place on with the key put in
abbrev pub keyed_from : List Part → List Cell → ℕ → List Cell → List Cell
keyed_from parts key place [] = []
keyed_from parts key place (cell ∷ row) = keyed_cell parts key place cell ∷ keyed_from parts key (place + 1) row

-- a row with the key put in
unfoldable pub keyed_row : List Part → List Cell → List Cell → List Cell
keyed_row parts key row = keyed_from parts key 0 row
