-- Rows that are made of values one after another.
use Rattle.std.proofs.Common.{◌≡◌, ℕ, ◌+◌, ◌<◌, ◌≤◌, ◌==◌, true, List, [], ◌∷◌, ◌++◌, length, map, get_or, Option, Some, None, sym, ap, ◌∙◌, arith}
use Rattle.std.specs.Prelude.{if◌then◌else◌}
use Rattle.std.specs.List.{zip}
use Rattle.std.proofs.lemmas.Bool.Decides.{nat_tests}
use Rattle.std.proofs.lemmas.List.{length-map}
use Rattle.std.proofs.lemmas.Slice.Zip.{firsts-zip, get_or-zip}
use Rattle.key_extract.specs.declared.cell.Cell.{Cell}
use Rattle.table_cmd.specs.declared.command.Value.{Value}
use Rattle.table_schema.specs.declared.column.Column.{Column}
use Rattle.table_schema.specs.Draft.{all_of}
use Rattle.table_schema.proofs.Readings.{Read, read_all, read_fails, read_one}
use Rattle.table_state.specs.Parts.{cells_from}
use Rattle.table_terms.specs.Table.{Cells}
use Rattle.table_terms.specs.Values.{cell_for}

abbrev pub cell_of_pair : Column × Value → Option Cell
cell_of_pair p = cell_for p.0 p.1

module _ (columns : List Column) (values : List Value) (same : length values ≡ length columns) where
  many : length (zip columns values) ≡ length columns
  many = sym (length-map (zip columns values) (λ (p : Column × Value). p.0)) ∙ ap length (firsts-zip columns values same)

  row_is : all_of (map cell_of_pair (zip columns values)) ≡ cells_from columns values
  unfolding cells_from
  row_is =
      let tested : (length values == length columns) ≡ true = grind (arith, nat_tests) in
      sym (ap (λ b. if b then all_of (map cell_of_pair (zip columns values)) else None) tested)

  module _ (i : ℕ) (done : Cells) (read : Read cell_of_pair (zip columns values) i done) where
    pub row_all : length values ≤ i → Some done ≡ cells_from columns values
    row_all all = read_all cell_of_pair (zip columns values) i done (omega (arith, many, same, all)) read ∙ row_is

    module _ (column : Column) (value : Value) (lt : i < length values) where
      pair : get_or (zip columns values) i (column, value) ≡ (get_or columns i column, get_or values i value)
      pair = get_or-zip columns values i (column, value) (omega (arith, lt, same)) lt

      pub row_none : cell_for (get_or columns i column) (get_or values i value) ≡ None → None ≡ cells_from columns values
      row_none e = read_fails cell_of_pair (zip columns values) i (column, value) done (omega (arith, many, same, lt)) read (ap cell_of_pair pair ∙ e) ∙ row_is

      pub row_more : (cell : Cell) → cell_for (get_or columns i column) (get_or values i value) ≡ Some cell → Read cell_of_pair (zip columns values) (i + 1) (done ++ cell ∷ [])
      row_more cell e = read_one cell_of_pair (zip columns values) i (column, value) done cell (omega (arith, many, same, lt)) read (ap cell_of_pair pair ∙ e)
