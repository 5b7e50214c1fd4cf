-- A row that fits still does with cells set and numbers added.
use Rattle.std.proofs.Common.{◌≡◌, ℕ, ◌+◌, ◌^◌, ℤ, pos, negsuc, Bool, true, false, ◌&&◌, ◌||◌, List, [], ◌∷◌, drop, Option, Some, None, refl, sym, ap, ◌∙◌, subst}
use Rattle.std.specs.Prelude.{◌+ℤ◌, if◌then◌else◌, option_map, slice_get}
use Rattle.std.specs.List.{AllByRecursion}
use Rattle.std.specs.Option.{option_map_or}
use Rattle.std.proofs.lemmas.Bool.{ltb-true}
use Rattle.std.proofs.lemmas.Option.{same_Some}
use Rattle.command_lines.specs.Fits.{FieldFits, IntFits}
use Rattle.key_extract.specs.declared.cell.Cell.{Cell}
use Rattle.key_extract.specs.declared.cell.Cell.TheVariants as cells
use Rattle.list_model.proofs.Lists.{head_left, slice_get_at}
use Rattle.table_cmd.specs.declared.command.Field.{Field}
use Rattle.table_schema.specs.declared.column.CellKind.{CellKind}
use Rattle.table_schema.specs.declared.column.CellKind.TheVariants as kinds
use Rattle.table_schema.specs.declared.column.Column.{Column}
use Rattle.table_state.specs.Standing.{RowFits}
use Rattle.table_terms.specs.Edits.{edited_cell, edited_from, edited_row, is_i64, sum_of}
use Rattle.table_terms.specs.Table.{Cells}
use Rattle.table_terms.specs.Values.{column_cell, is_cell_of}
use Rattle.table_state.proofs.Stays.Cells.{Suits, column_suits}
use Rattle.table_state.proofs.Stays.Rows.{Suit, fits_of, split_cons, suit_of}

int_fits : (n : ℤ) → is_i64 n ≡ true → IntFits n
int_fits (pos n) h = ltb-true n (2 ^ 63) h
int_fits (negsuc n) h = ltb-true n (2 ^ 63) h

-- a column holds all whole numbers or none
any_int : (kind : CellKind) (a b : ℤ) → is_cell_of kind (cells.Int b) ≡ is_cell_of kind (cells.Int a)
any_int kinds.Int a b = refl
any_int kinds.Text a b = refl
any_int kinds.Bool a b = refl

sum_suits : (column : Column) (cell number x : Cell) → Suits column cell → sum_of cell number ≡ Some x → Suits column x
sum_suits column cells.Null number x suits e = subst (Suits column) (same_Some cells.Null x e) suits
sum_suits column (cells.Int a) cells.Null x suits e = subst (Suits column) (same_Some (cells.Int a) x e) suits
sum_suits column (cells.Int a) (cells.Text s) x suits e = subst (Suits column) (same_Some (cells.Int a) x e) suits
sum_suits column (cells.Int a) (cells.Bool b) x suits e = subst (Suits column) (same_Some (cells.Int a) x e) suits
sum_suits column (cells.Text s) number x suits e = subst (Suits column) (same_Some (cells.Text s) x e) suits
sum_suits column (cells.Bool b) number x suits e = subst (Suits column) (same_Some (cells.Bool b) x e) suits
sum_suits column (cells.Int a) (cells.Int b) x suits e = by (is_i64 (a +ℤ b)) refl e
  where
    by : (t : Bool) → is_i64 (a +ℤ b) ≡ t → option_map (λ n. cells.Int n) (if t then Some (a +ℤ b) else None) ≡ Some x → Suits column x
    by true fits e =
        subst (Suits column) (same_Some (cells.Int (a +ℤ b)) x e)
        (ap (λ h. (column.null && false) || h) (any_int column.cell a (a +ℤ b)) ∙ suits.0, int_fits (a +ℤ b) fits)
    by false fits e = cc

module _ (set add : List Field) (sets : AllByRecursion FieldFits set) (adds : AllByRecursion FieldFits add) where
  cell_edited : (column : Column) (cell x : Cell) → Suits column cell → edited_cell set add column cell ≡ Some x → Suits column x
  cell_edited column cell x suits e = by_set (column_cell column set) (λ v. column_suits column set v sets) e
    where
      by_add : (o : Option Cell) → option_map_or (sum_of cell) o (Some cell) ≡ Some x → Suits column x
      by_add None e = subst (Suits column) (same_Some cell x e) suits
      by_add (Some number) e = sum_suits column cell number x suits e

      by_set : (o : Option Cell) → ((v : Cell) → o ≡ Some v → Suits column v) → option_map_or (λ value. Some value) o (option_map_or (sum_of cell) (column_cell column add) (Some cell)) ≡ Some x → Suits column x
      by_set None h e = by_add (column_cell column add) e
      by_set (Some v) h e = subst (Suits column) (same_Some v x e) (h v refl)

  edited : (all columns : List Column) (place : ℕ) → columns ≡ drop place all → (row new : Cells) → Suit columns row → edited_from all set add place row ≡ Some new → Suit columns new
  edited all [] place s [] new suit e = subst (Suit []) (same_Some [] new e) tt
  edited all [] place s (c ∷ cs) new suit e = absurd suit
  edited all (column ∷ columns) place s [] new suit e = absurd suit
  edited all (column ∷ columns) place s (c ∷ cs) new suit e =
      let here = head_left all columns column column place s in
      let (x, xs, first, rest, same) = split_cons _ _ new e in
      let there : slice_get all place ≡ Some column = slice_get_at all place column here.1 ∙ ap (λ k. Some k) here.0 in
      let cell : edited_cell set add column c ≡ Some x = sym (ap (λ o. option_map_or (λ k. edited_cell set add k c) o (Some c)) there) ∙ first in
      subst (Suit (column ∷ columns)) same (cell_edited column c x suit.0 cell, edited all columns (place + 1) here.2 cs xs suit.1 rest)

pub row_edited : (columns : List Column) (set add : List Field) (row new : Cells) → AllByRecursion FieldFits set → AllByRecursion FieldFits add → RowFits columns row → edited_row columns set add row ≡ Some new → RowFits columns new
unfolding edited_row
row_edited columns set add row new sets adds fits e =
    fits_of columns new (edited set add sets adds columns columns 0 refl row new (suit_of columns row fits) e)
