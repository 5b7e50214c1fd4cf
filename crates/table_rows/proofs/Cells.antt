-- The field of a cell is read as that cell.
use Rattle.std.proofs.Common.{◌≡◌, ◌≤◌, ◌<◌, ◌==◌, ℕ, Bool, true, false, List, [], ◌∷◌, length, IsUtf8, refl, arith}
use Rattle.std.proofs.lemmas.Bool.{leb-true}
use Rattle.command_lines.specs.Fits.{CellFits}
use Rattle.key_extract.specs.declared.cell.Cell.{Cell}
use Rattle.key_extract.specs.declared.cell.Cell.TheVariants.{Null, Int, Text, Bool as OfBool}
use Rattle.table_rows.specs.Csv.{IsCellIn, IsCellOf, field_of, field_of_text}
use Rattle.table_rows.proofs.Numbers.{number_read, some_digit}
use Rattle.table_schema.specs.declared.column.CellKind.{CellKind}
use Rattle.table_schema.specs.declared.column.CellKind.TheVariants as kinds
use Rattle.table_schema.specs.declared.column.Column.{Column}
use Rattle.table_terms.specs.Values.{can_hold, max_text}

abbrev column_of : List ℕ → CellKind → Bool → Column
column_of name kind null = record { name = name; cell = kind; null = null }

whole : (column : Column) (field : List ℕ) (cell : Cell) → 0 < length field → IsCellOf column.cell column.null field cell → IsCellIn column field cell
whole column [] cell some is = absurd (omega (arith, some))
whole column (byte ∷ rest) cell some is = is

-- a text where there is no null
plain : (name text : List ℕ) → IsUtf8 text → length text ≤ max_text → IsCellIn (column_of name kinds.Text false) text (Text text)
plain name [] fits short = (refl, fits, short)
plain name (byte ∷ text) fits short = (refl, fits, short)

-- and where there is
marked : (name text : List ℕ) → IsUtf8 text → length text ≤ max_text → IsCellIn (column_of name kinds.Text true) (field_of_text true text) (Text text)
marked name [] fits short = (refl, fits, short)
marked name (byte ∷ text) fits short = go (byte == 92) refl
  where
    go : (b : Bool) → (byte == 92) ≡ b → IsCellIn (column_of name kinds.Text true) (field_of_text true (byte ∷ text)) (Text (byte ∷ text))
    go true is = rw is (refl, fits, short)
    go false is = rw is (rw is refl, fits, short)

reads_as : (name : List ℕ) (kind : CellKind) (null : Bool) (cell : Cell) → can_hold (column_of name kind null) cell ≡ true → CellFits cell
    → IsCellIn (column_of name kind null) (field_of (column_of name kind null) cell) cell
reads_as name kind true Null holds fits = refl
reads_as name kinds.Int false Null holds fits = absurd (cc holds)
reads_as name kinds.Text false Null holds fits = absurd (cc holds)
reads_as name kinds.Bool false Null holds fits = absurd (cc holds)
reads_as name kinds.Int null (Int n) holds fits = whole (column_of name kinds.Int null) _ (Int n) (some_digit n fits) (number_read n null fits)
reads_as name kinds.Text true (Int n) holds fits = absurd (cc holds)
reads_as name kinds.Text false (Int n) holds fits = absurd (cc holds)
reads_as name kinds.Bool true (Int n) holds fits = absurd (cc holds)
reads_as name kinds.Bool false (Int n) holds fits = absurd (cc holds)
reads_as name kinds.Text true (Text text) holds fits = marked name text fits (leb-true _ _ holds)
reads_as name kinds.Text false (Text text) holds fits = plain name text fits (leb-true _ _ holds)
reads_as name kinds.Int true (Text text) holds fits = absurd (cc holds)
reads_as name kinds.Int false (Text text) holds fits = absurd (cc holds)
reads_as name kinds.Bool true (Text text) holds fits = absurd (cc holds)
reads_as name kinds.Bool false (Text text) holds fits = absurd (cc holds)
reads_as name kinds.Bool null (OfBool true) holds fits = refl
reads_as name kinds.Bool null (OfBool false) holds fits = refl
reads_as name kinds.Int true (OfBool b) holds fits = absurd (cc holds)
reads_as name kinds.Int false (OfBool b) holds fits = absurd (cc holds)
reads_as name kinds.Text true (OfBool b) holds fits = absurd (cc holds)
reads_as name kinds.Text false (OfBool b) holds fits = absurd (cc holds)

pub reads : (column : Column) (cell : Cell) → can_hold column cell ≡ true → CellFits cell → IsCellIn column (field_of column cell) cell
reads column = reads_as column.name column.cell column.null
