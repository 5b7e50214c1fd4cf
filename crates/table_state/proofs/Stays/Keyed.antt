-- A row that fits still does with the key of an index put in.
use Rattle.std.proofs.Common.{◌≡◌, ℕ, zero, suc, ◌+◌, ◌==◌, List, [], ◌∷◌, drop, get_or, Option, Some, None, false, refl, sym, ap, ◌∙◌, subst}
use Rattle.std.specs.Prelude.{option_and_then, position, slice_get, unwrap_or}
use Rattle.std.proofs.lemmas.Bool.{eqb-true}
use Rattle.std.proofs.lemmas.List.Quantifiers.{position-Some}
use Rattle.std.proofs.lemmas.Option.{same_Some}
use Rattle.command_lines.specs.Fits.{KeyFits, ValueFits}
use Rattle.key_extract.specs.declared.cell.Cell.{Cell}
use Rattle.key_extract.specs.declared.key.Part.{Part}
use Rattle.list_model.proofs.Lists.{head_left, slice_get_at}
use Rattle.table_cmd.specs.declared.command.Value.{Value}
use Rattle.table_schema.specs.declared.column.Column.{Column}
use Rattle.table_state.specs.Standing.{RowFits}
use Rattle.table_terms.specs.Edits.{keyed_cell, keyed_from, keyed_row}
use Rattle.table_terms.specs.Table.{Cells}
use Rattle.table_terms.specs.Values.{cell_for, part_cells}
use Rattle.table_state.proofs.Stays.Cells.{Suits, value_suits}
use Rattle.table_state.proofs.Stays.Rows.{Suit, fits_of, split_cons, suit_of}

some_part : Part
some_part = record { column = 0; falling = false }

module _ (all : List Column) (column : Column) where
  -- each cell of a key whose part is of the column suits it
  abbrev EachSuits : List Part → Cells → Type 0
  EachSuits parts key = (n : ℕ) (k : Cell) → slice_get all (get_or parts n some_part).column ≡ Some column → slice_get key n ≡ Some k → Suits column k

  no_cell : (parts : List Part) → EachSuits parts []
  no_cell parts n k there is = let none : None ≡ Some k = is in cc

  one_more : (part : Part) (v : Value) (c : Cell) → ValueFits v → option_and_then (λ d. cell_for d v) (slice_get all part.column) ≡ Some c →
      (parts : List Part) (key : Cells) → EachSuits parts key → EachSuits (part ∷ parts) (c ∷ key)
  one_more part v c fits given parts key each zero k there is =
      subst (Suits column) (same_Some c k is) (value_suits column v c fits (sym (ap (option_and_then (λ d. cell_for d v)) there) ∙ given))
  one_more part v c fits given parts key each (suc n) k there is = each n k there is

  cells_suit : (parts : List Part) (values : List Value) (key : Cells) → KeyFits values → part_cells all parts values ≡ Some key → EachSuits parts key
  cells_suit [] [] key fits e = subst (EachSuits []) (same_Some [] key e) (no_cell [])
  cells_suit [] (v ∷ vs) key fits e = absurd cc
  cells_suit (part ∷ parts) [] key fits e = subst (EachSuits (part ∷ parts)) (same_Some [] key e) (no_cell (part ∷ parts))
  cells_suit (part ∷ parts) (v ∷ vs) key fits e = by (slice_get all part.column) refl (λ ks rest. cells_suit parts vs ks fits.1 rest) e
    where
      by : (o : Option Column) → slice_get all part.column ≡ o → ((ks : Cells) → part_cells all parts vs ≡ Some ks → EachSuits parts ks) →
          option_and_then (λ d. option_and_then (λ k. option_and_then (λ ks. Some (k ∷ ks)) (part_cells all parts vs)) (cell_for d v)) o ≡ Some key → EachSuits (part ∷ parts) key
      by None is later e = absurd cc
      by (Some d) is later e =
          let (k, ks, first, rest, same) = split_cons (cell_for d v) (part_cells all parts vs) key e in
          subst (EachSuits (part ∷ parts)) same (one_more part v k fits.0 (ap (option_and_then (λ x. cell_for x v)) is ∙ first) parts ks (later ks rest))

  cell_keyed : (parts : List Part) (key : Cells) → EachSuits parts key → (place : ℕ) → slice_get all place ≡ Some column → (cell : Cell) → Suits column cell → Suits column (keyed_cell parts key place cell)
  cell_keyed parts key each place there cell suits = by_place (position (λ part. part.column == place) parts) refl
    where
      by_key : (n : ℕ) → (get_or parts n some_part).column ≡ place → (o : Option Cell) → slice_get key n ≡ o → Suits column (unwrap_or o cell)
      by_key n same None is = suits
      by_key n same (Some k) is = each n k (ap (slice_get all) same ∙ there) is

      by_place : (o : Option ℕ) → position (λ part. part.column == place) parts ≡ o → Suits column (unwrap_or (option_and_then (slice_get key) o) cell)
      by_place None is = suits
      by_place (Some n) is = by_key n (eqb-true _ place (position-Some (λ (part : Part). part.column == place) parts n some_part is).1) (slice_get key n) refl

module _ (parts : List Part) (values : List Value) (key : Cells) (fits : KeyFits values) where
  keyed : (all columns : List Column) → part_cells all parts values ≡ Some key → (place : ℕ) → columns ≡ drop place all → (row : Cells) → Suit columns row → Suit columns (keyed_from parts key place row)
  keyed all [] is place s [] suit = tt
  keyed all [] is place s (c ∷ cs) suit = absurd suit
  keyed all (column ∷ columns) is place s [] suit = absurd suit
  keyed all (column ∷ columns) is place s (c ∷ cs) suit =
      let here = head_left all columns column column place s in
      let there : slice_get all place ≡ Some column = slice_get_at all place column here.1 ∙ ap (λ k. Some k) here.0 in
      (cell_keyed all column parts key (cells_suit all column parts values key fits is) place there c suit.0, keyed all columns is (place + 1) here.2 cs suit.1)

pub row_keyed : (columns : List Column) (parts : List Part) (values : List Value) (key row : Cells) → KeyFits values → part_cells columns parts values ≡ Some key → RowFits columns row → RowFits columns (keyed_row parts key row)
unfolding keyed_row
row_keyed columns parts values key row fits is held = fits_of columns _ (keyed parts values key fits columns columns is 0 refl row (suit_of columns row held))
