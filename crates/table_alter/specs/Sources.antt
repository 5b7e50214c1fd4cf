-- Where the cells of a table's columns come from under another declaration.
use Rattle.std.specs.Prelude.{ℕ, List, map, find, Option, Some, None, option_map, position, slice_get, unwrap_or, not, bytes_eq}
use Rattle.std.specs.List.{zip}
use Rattle.container_model.specs.declared.handle.Entry.{Entry}
use Rattle.key_extract.specs.declared.cell.Cell.{Cell}
use Rattle.key_extract.specs.declared.cell.Cell.TheVariants.{Null}
use Rattle.table_alter.specs.declared.source.Fill.{Fill}
use Rattle.table_alter.specs.declared.source.Source.{Source}
use Rattle.table_alter.specs.declared.source.Source.TheVariants.{Kept, Given}
use Rattle.table_schema.specs.declared.column.Column.{Column}
use Rattle.table_terms.specs.Table.{Cells}
use Rattle.table_terms.specs.Values.{can_hold}

-- the place of the column of this name
abbrev pub place_of : List Column → List ℕ → Option ℕ
place_of columns name = position (λ column. bytes_eq column.name name) columns

-- the value that is given for a column
abbrev pub given_for : List Fill → List ℕ → Option Cell
given_for fills name = option_map (λ f. f.cell) (find (λ f. bytes_eq f.column name) fills)

abbrev pub source_at : Option ℕ → Option Cell → Source
source_at (Some place) given = Kept place
source_at None given = Given (unwrap_or given Null)

-- a column that was there keeps its cells, and another gets the value that is given for it, or null
abbrev pub source_of : List Column → List Fill → Column → Source
source_of before fills column = source_at (place_of before column.name) (given_for fills column.name)

abbrev pub sources_of : List Column → List Fill → List Column → List Source
sources_of before fills after = map (source_of before fills) after

abbrev pub cell_from : Cells → Source → Cell
cell_from cells (Kept place) = unwrap_or (slice_get cells place) Null
cell_from cells (Given cell) = cell

-- the cells of a record's columns
abbrev pub row_from : List Source → Cells → Cells
row_from sources cells = map (cell_from cells) sources

-- a record with these columns, under its own handle
abbrev pub entry_from : List Source → Entry Cells → Entry Cells
entry_from sources e = record e { row = row_from sources e.row }

-- the first column that can't hold its cell
abbrev pub first_unheld : List Column → Cells → Option ℕ
first_unheld columns cells = position (λ p. not (can_hold p.0 p.1)) (zip columns cells)
