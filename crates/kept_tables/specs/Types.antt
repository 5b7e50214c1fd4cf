-- The types of a table's columns, as the first line of its state has them.
use Rattle.std.specs.Prelude.{ℕ, List, [], ◌∷◌, ◌++◌, codes, if◌then◌else◌}
use Rattle.table_schema.specs.declared.column.CellKind.{CellKind}
use Rattle.table_schema.specs.declared.column.CellKind.TheVariants as cells
use Rattle.table_schema.specs.declared.column.Column.{Column}

-- the name of a cell's type
abbrev pub cell_name : CellKind → List ℕ
cell_name cells.Int = codes "int"
cell_name cells.Text = codes "text"
cell_name cells.Bool = codes "bool"

-- the type of a column up to its last quote; a mark says that a cell may be null
abbrev pub type_text : Column → List ℕ
type_text column = cell_name column.cell ++ (if column.null then codes "?\"" else codes "\"")

-- the types of columns, where this stands before the first of them
abbrev pub types_behind : List ℕ → List Column → List ℕ
types_behind before [] = []
types_behind before (column ∷ columns) = (before ++ type_text column) ++ types_behind (codes ",\"") columns

-- the first line up to the types
abbrev pub types_line : List Column → List ℕ
types_line columns = (codes "{\"cells\":[" ++ types_behind (codes "\"") columns) ++ codes "]"
