-- Fields of records as cells, and the parts of keys.
use Rattle.std.specs.Prelude.{true, false}
use Rattle.key_extract.specs.declared.cell.Cell.{Cell}
use Rattle.key_extract.specs.declared.cell.Cell.TheVariants.{Null, Int, Text as TextCell, Bool as TruthCell}
use Rattle.key_extract.specs.declared.key.Part.{Part}
use Rattle.field_keys.specs.declared.field.Field.{Field}
use Rattle.field_keys.specs.declared.field.Field.TheVariants.{Absent, Number, Text, Truth}
use Rattle.field_keys.specs.declared.part.KeyPart.{KeyPart}
use Rattle.field_keys.specs.declared.part.KeyPart.TheVariants.{Rising, Falling}

-- a field as a cell
abbrev pub cell_of : Field → Cell
cell_of Absent = Null
cell_of (Number n) = Int n
cell_of (Text t) = TextCell t.now
cell_of (Truth b) = TruthCell b

-- a part by its column and its direction
abbrev pub part_of : KeyPart → Part
part_of (Rising column) = record { column = column; falling = false }
part_of (Falling column) = record { column = column; falling = true }
