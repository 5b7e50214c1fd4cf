-- Cells as arrays spell them.
use Rattle.std.specs.Prelude.{ℕ, zero, suc, ◌==◌, ◌^◌, ◌-◌, Bool, true, false, ◌&&◌, if◌then◌else◌, List, [], ◌∷◌, ◌++◌, length, take, drop, min, nat_le, ℤ, pos, negsuc, Option, Some, None, option_map, option_and_then, slice_get, unwrap_or}
use Rattle.std.specs.Option.{option_map_or}
use Rattle.std.specs.Str.{is_utf8}
use Rattle.key_extract.specs.declared.cell.Cell.{Cell}
use Rattle.key_extract.specs.declared.cell.Cell.TheVariants as cells
use Rattle.key_extract.specs.declared.key.Part.{Part}
use Rattle.table_schema.specs.declared.column.Column.{Column}
use Rattle.table_schema.specs.declared.column.IndexSpec.{IndexSpec}
use Rattle.table_terms.specs.Values.{◌>>=◌, are_enough, can_hold, parts_of}
use Rattle.tables_c.specs.declared.cells.RowCell.{RowCell}
use Rattle.tables_c.specs.declared.cells.TheConstants.{NULL, INTEGER, TEXT, BOOLEAN}

-- ---- what is read

-- the natural number that a number is
abbrev pub natural : ℤ → Option ℕ
natural (pos n) = Some n
natural (negsuc n) = None

-- the truth value of a number
abbrev pub truth : ℤ → Option Bool
truth (pos zero) = Some false
truth (pos (suc zero)) = Some true
truth (pos (suc (suc n))) = None
truth (negsuc n) = None

-- so many bytes in front, and those behind them
abbrev pub cut : List ℕ → ℕ → Option (List ℕ × List ℕ)
cut bytes n = if nat_le n (length bytes) then Some (take n bytes, drop n bytes) else None

-- the text that bytes are
abbrev pub text_of : List ℕ → Option Cell
text_of bytes = if is_utf8 bytes then Some (cells.Text bytes) else None

-- the text of so many bytes in front, and the bytes behind it
abbrev pub first_text : ℤ → List ℕ → Option (Cell × List ℕ)
first_text number texts = do
  n ← natural number
  parts ← cut texts n
  text ← text_of parts.0
  Some (text, parts.1)

-- the cell that a kind and a number are without a text
abbrev pub plain_cell : RowCell → Option Cell
plain_cell c =
    if c.kind == NULL then Some cells.Null
    else (if c.kind == INTEGER then Some (cells.Int c.number)
    else (if c.kind == BOOLEAN then option_map cells.Bool (truth c.number) else None))

-- the cell that a kind and a number are, with its text in front of these bytes, and the bytes behind it
abbrev pub first_cell : RowCell → List ℕ → Option (Cell × List ℕ)
first_cell c texts = if c.kind == TEXT then first_text c.number texts else option_map (λ cell. (cell, texts)) (plain_cell c)

-- how many bytes the text of a cell has
abbrev pub text_length : RowCell → ℕ
text_length c = if c.kind == TEXT then unwrap_or (natural c.number) 0 else 0

-- the bytes behind the text of a cell, and behind those of some; none where they have more than there are
abbrev pub behind_text : RowCell → List ℕ → List ℕ
behind_text c texts = option_map_or (λ parts. parts.1) (cut texts (text_length c)) []

abbrev pub behind : List RowCell → List ℕ → List ℕ
behind [] texts = texts
behind (c ∷ cs) texts = behind cs (behind_text c texts)

-- the cells that these are, where each is one, and no byte is left
abbrev pub spelled : List RowCell → List ℕ → Option (List Cell)
spelled [] [] = Some []
spelled [] (byte ∷ bytes) = None
spelled (c ∷ cs) texts = option_and_then (λ first. option_map (λ more. first.0 ∷ more) (spelled cs first.1)) (first_cell c texts)

-- ---- what columns and keys can hold

-- whether the columns can hold the cells, one each
abbrev pub hold_row : List Column → List Cell → Bool
hold_row [] [] = true
hold_row [] (cell ∷ cells) = false
hold_row (column ∷ columns) [] = false
hold_row (column ∷ columns) (cell ∷ cells) = can_hold column cell && hold_row columns cells

-- the row that cells spell
unfoldable pub row_spelled : List Column → List RowCell → List ℕ → Option (List Cell)
row_spelled columns cs texts = option_and_then (λ row. if hold_row columns row then Some row else None) (spelled cs texts)

-- whether a cell is one of a part's column, and of that of the part at a place
abbrev pub column_holds : List Column → Part → Cell → Bool
column_holds columns part cell = option_map_or (λ column. can_hold column cell) (slice_get columns part.column) false

abbrev pub part_holds : List Column → List Part → ℕ → Cell → Bool
part_holds columns parts place cell = option_map_or (λ part. column_holds columns part cell) (slice_get parts place) false

-- whether each cell is one of the column of its part
abbrev pub hold_key : List Column → List Part → List Cell → Bool
hold_key columns parts [] = true
hold_key columns [] (cell ∷ cells) = false
hold_key columns (part ∷ parts) (cell ∷ cells) = column_holds columns part cell && hold_key columns parts cells

-- whether cells search an index: some leading parts of its key, and all where it is hashed
abbrev pub is_key : List Column → IndexSpec → List Cell → Bool
is_key columns index key = are_enough index (length key) && hold_key columns (parts_of index) key

-- the search key that cells spell
unfoldable pub key_spelled : List Column → IndexSpec → List RowCell → List ℕ → Option (List Cell)
key_spelled columns index cs texts = option_and_then (λ key. if is_key columns index key then Some key else None) (spelled cs texts)

-- ---- what is told

-- the greatest number of 64 bits with a sign, and without one
abbrev pub most_signed : ℕ
most_signed = 2 ^ 63 - 1

abbrev pub most : ℕ
most = 2 ^ 64 - 1

-- a length as a number
abbrev pub length_told : ℕ → ℤ
length_told n = pos (min n most_signed)

-- the kind and the number of a cell
abbrev pub cell_told : Cell → RowCell
cell_told cells.Null = record { number = pos 0; kind = NULL }
cell_told (cells.Int n) = record { number = n; kind = INTEGER }
cell_told (cells.Text bytes) = record { number = length_told (length bytes); kind = TEXT }
cell_told (cells.Bool true) = record { number = pos 1; kind = BOOLEAN }
cell_told (cells.Bool false) = record { number = pos 0; kind = BOOLEAN }

-- the bytes of a cell's text, and of all cells'
abbrev pub text_bytes : Cell → List ℕ
text_bytes (cells.Text bytes) = bytes
text_bytes cells.Null = []
text_bytes (cells.Int n) = []
text_bytes (cells.Bool b) = []

abbrev pub all_texts : List Cell → List ℕ
all_texts [] = []
all_texts (cell ∷ cells) = text_bytes cell ++ all_texts cells
