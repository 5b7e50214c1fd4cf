-- The fields of a record, as the row that they make up.
pub use Rattle.std.specs.Prelude.{◌∷◌, []}
use Rattle.std.specs.Prelude.{ℕ, ℤ, pos, Bool, List, Option}
use Rattle.std.specs.Option.{option_map_or}
use Rattle.key_extract.specs.declared.cell.Cell.{Cell}
use Rattle.key_extract.specs.declared.cell.Cell.TheVariants.{Null, Int, Text, Bool as Truth}

-- no value, which comes before all others
abbrev pub absent : Cell
absent = Null

-- a number without a sign
abbrev pub unsigned : ℕ → Cell
unsigned n = Int (pos n)

-- a number with a sign
abbrev pub signed : ℤ → Cell
signed n = Int n

-- a text, by its bytes
abbrev pub text : List ℕ → Cell
text bytes = Text bytes

abbrev pub truth : Bool → Cell
truth b = Truth b

-- the field of a value that may be absent
abbrev pub if_some : {T : Type 0} → (T → Cell) → Option T → Cell
if_some field value = option_map_or field value absent
