-- Values of searches as cells, and how a record stands to one.
use Rattle.std.specs.Prelude.{ℕ, List, [], Some, slice_get, slice_index_or}
use Rattle.std.specs.declared.cmp.Ordering.{Ordering}
use Rattle.key_extract.specs.declared.cell.Cell.{Cell}
use Rattle.key_extract.specs.declared.cell.Cell.TheVariants.{Null, Int, Text as TextCell, Bool as TruthCell}
use Rattle.key_extract.specs.declared.key.Part.{Part}
use Rattle.key_extract.specs.Cells.{optional_cell_cmp}
use Rattle.key_extract.specs.Keys.{directed}
use Rattle.field_keys.specs.declared.search.Value.{Value}
use Rattle.field_keys.specs.declared.search.Value.TheVariants.{Absent, Number, Text, Truth}

-- a value as a cell
abbrev pub value_cell : Value → Cell
value_cell Absent = Null
value_cell (Number n) = Int n
value_cell (Text t) = TextCell t
value_cell (Truth b) = TruthCell b

-- how a row stands to one value of a search
abbrev pub value_side : Part → List Cell → Cell → Ordering
value_side part row cell = directed part (optional_cell_cmp (slice_get row part.column) (Some cell))

-- the parts of an index's key, none where it has no key
abbrev pub key_at : List (List Part) → ℕ → List Part
key_at keys index = slice_index_or keys index []
