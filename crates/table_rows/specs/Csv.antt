-- Records as rows of CSV.
use Rattle.std.specs.Prelude.{◌≡◌, ◌<◌, ◌≤◌, ◌==◌, ◌&&◌, ℕ, Bool, true, false, if◌then◌else◌, List, [], ◌∷◌, ◌++◌, length, map, IsUtf8, FitsSigned, ⊤}
use Rattle.std.specs.Fmt.{signed_decimal}
use Rattle.std.specs.List.{flat_map, zip}
use Rattle.std.specs.Str.Parse.{IsNumeral, false_text, signed_digits_value, true_text, without_leading_sign}
use Rattle.std.specs.Int.{w64}
use Rattle.container_model.specs.declared.handle.Handle.{Handle}
use Rattle.container_model.specs.State.{list_at}
use Rattle.csv.specs.Writing.{default_writer, row_text}
use Rattle.key_extract.specs.declared.cell.Cell.{Cell}
use Rattle.key_extract.specs.declared.cell.Cell.TheVariants.{Null, Int, Text, Bool as OfBool}
use Rattle.table_rows.specs.Inserts.{cells_at}
use Rattle.table_rows.specs.declared.fault.CellWhy.{CellWhy}
use Rattle.table_rows.specs.declared.fault.CellWhy.TheVariants as why
use Rattle.table_schema.specs.declared.column.CellKind.{CellKind}
use Rattle.table_schema.specs.declared.column.CellKind.TheVariants as kinds
use Rattle.table_schema.specs.declared.column.Column.{Column}
use Rattle.table_terms.specs.Table.{Cells, TableState}
use Rattle.table_terms.specs.Values.{max_text}

-- a text that is empty or begins with a backslash
abbrev pub is_marked : List ℕ → Bool
is_marked [] = true
is_marked (byte ∷ text) = byte == 92

-- the field of a text: where the column may be null, such a text has a backslash before it, so none is the empty field of null
abbrev pub field_of_text : Bool → List ℕ → List ℕ
field_of_text null text = if null && is_marked text then 92 ∷ text else text

abbrev pub bool_text : Bool → List ℕ
bool_text true = true_text
bool_text false = false_text

-- the field of a cell
abbrev pub field_of : Column → Cell → List ℕ
field_of column Null = []
field_of column (Int n) = signed_decimal n
field_of column (Text text) = field_of_text column.null text
field_of column (OfBool b) = bool_text b

-- the fields of a row
abbrev pub row_fields : List Column → Cells → List (List ℕ)
row_fields columns cells = map (λ p. field_of p.0 p.1) (zip columns cells)

-- the header
abbrev pub names_of : List Column → List (List ℕ)
names_of columns = map (λ column. column.name) columns

abbrev pub row_at : TableState → Handle → List ℕ
row_at t handle = row_text default_writer (row_fields t.shape.columns (cells_at t handle))

-- the header, and a row for each record in the order of an index
abbrev pub csv_text : TableState → ℕ → List ℕ
csv_text t index = row_text default_writer (names_of t.shape.columns) ++ flat_map (row_at t) (list_at t.records.lists index)

-- ---- the cell of a field

-- a field without the backslash that it begins with
abbrev pub unmarked : List ℕ → List ℕ
unmarked [] = []
unmarked (byte ∷ rest) = if byte == 92 then rest else byte ∷ rest

-- what a field of a text says
abbrev pub text_said : Bool → List ℕ → List ℕ
text_said null field = if null then unmarked field else field

-- the cell that a field is in a column of this type, which may be null or not
abbrev pub IsCellOf : CellKind → Bool → List ℕ → Cell → Type 0
IsCellOf kinds.Int null field (Int n) = IsUtf8 field × IsNumeral 10 (without_leading_sign field) × FitsSigned w64 n × (n ≡ signed_digits_value 10 field)
IsCellOf kinds.Text null field (Text text) = (text ≡ text_said null field) × IsUtf8 text × (length text ≤ max_text)
IsCellOf kinds.Bool null field (OfBool b) = field ≡ bool_text b
IsCellOf kind null field cell = ⊥

-- the cell of an empty field
abbrev pub IsEmptyIn : CellKind → Bool → Cell → Type 0
IsEmptyIn kind true cell = cell ≡ Null
IsEmptyIn kind false cell = IsCellOf kind false [] cell

-- the cell of a field: null where it is empty and the column may be null
abbrev pub IsCellIn : Column → List ℕ → Cell → Type 0
IsCellIn column [] cell = IsEmptyIn column.cell column.null cell
IsCellIn column (byte ∷ rest) cell = IsCellOf column.cell column.null (byte ∷ rest) cell

-- why a field is none
abbrev pub IsNoCell : CellKind → Bool → List ℕ → CellWhy → Type 0
IsNoCell kind null field why.Memory = ⊤
IsNoCell kinds.Int null field why.Int = (n : _) → IsCellOf kinds.Int null field (Int n) → ⊥
IsNoCell kinds.Bool null field why.Bool = (b : Bool) → field ≡ bool_text b → ⊥
IsNoCell kinds.Text null field why.Text = IsUtf8 (text_said null field) → ⊥
IsNoCell kinds.Text null field why.Long = max_text < length (text_said null field)
IsNoCell kind null field w = ⊥

-- why an empty field is none: where the column may be null, it is null
abbrev pub IsNoneEmptyIn : CellKind → Bool → CellWhy → Type 0
IsNoneEmptyIn kind true w = ⊥
IsNoneEmptyIn kind false w = IsNoCell kind false [] w

-- why a field is no cell of a column
abbrev pub IsNoCellIn : Column → List ℕ → CellWhy → Type 0
IsNoCellIn column [] w = IsNoneEmptyIn column.cell column.null w
IsNoCellIn column (byte ∷ rest) w = IsNoCell column.cell column.null (byte ∷ rest) w
