-- Rows that fit, cell for cell, and the row that fields are.
use Rattle.std.proofs.Common.{◌≡◌, suc, Bool, true, false, ◌==◌, List, [], ◌∷◌, length, Option, Some, None, refl, ap, subst, arith}
use Rattle.std.specs.Prelude.{if◌then◌else◌, option_and_then, ⊤}
use Rattle.std.specs.List.{AllByRecursion, zip}
use Rattle.std.proofs.lemmas.Option.{same_Some}
use Rattle.command_lines.specs.Fits.{CellFits, FieldFits, FieldsFit}
use Rattle.table_cmd.specs.declared.command.Field.{Field}
use Rattle.table_schema.specs.declared.column.Column.{Column}
use Rattle.table_state.specs.Standing.{RowFits}
use Rattle.table_terms.specs.Table.{Cells}
use Rattle.table_terms.specs.Values.{can_hold, column_cells, row_from}
use Rattle.table_state.proofs.Stays.Cells.{Suits, column_suits}

-- each cell suits its column, and there are as many
abbrev pub Suit : List Column → Cells → Type 0
Suit [] [] = ⊤
Suit [] (c ∷ cs) = ⊥
Suit (column ∷ columns) [] = ⊥
Suit (column ∷ columns) (c ∷ cs) = Suits column c × Suit columns cs

suit_count : (columns : List Column) (row : Cells) → Suit columns row → length row ≡ length columns
suit_count [] [] h = refl
suit_count [] (c ∷ cs) h = absurd h
suit_count (column ∷ columns) [] h = absurd h
suit_count (column ∷ columns) (c ∷ cs) h = ap suc (suit_count columns cs h.1)

suit_held : (columns : List Column) (row : Cells) → Suit columns row → AllByRecursion (λ p. can_hold p.0 p.1 ≡ true) (zip columns row)
suit_held [] [] h = tt
suit_held [] (c ∷ cs) h = absurd h
suit_held (column ∷ columns) [] h = absurd h
suit_held (column ∷ columns) (c ∷ cs) h = (h.0.0, suit_held columns cs h.1)

suit_cells : (columns : List Column) (row : Cells) → Suit columns row → AllByRecursion CellFits row
suit_cells [] [] h = tt
suit_cells [] (c ∷ cs) h = absurd h
suit_cells (column ∷ columns) [] h = absurd h
suit_cells (column ∷ columns) (c ∷ cs) h = (h.0.1, suit_cells columns cs h.1)

pub fits_of : (columns : List Column) (row : Cells) → Suit columns row → RowFits columns row
fits_of columns row h = record { count = suit_count columns row h; held = suit_held columns row h; cells = suit_cells columns row h }

suit_from : (columns : List Column) (row : Cells) → length row ≡ length columns → AllByRecursion (λ p. can_hold p.0 p.1 ≡ true) (zip columns row) → AllByRecursion CellFits row → Suit columns row
suit_from [] [] n held cells = tt
suit_from [] (c ∷ cs) n held cells = cc
suit_from (column ∷ columns) [] n held cells = cc
suit_from (column ∷ columns) (c ∷ cs) n held cells = ((held.0, cells.0), suit_from columns cs (omega (arith, n)) held.1 cells.1)

pub suit_of : (columns : List Column) (row : Cells) → RowFits columns row → Suit columns row
suit_of columns row fits = suit_from columns row fits.count fits.held fits.cells

-- a list whose first member and others are made apart
pub split_cons : {X : Type 0} (o : Option X) (p : Option (List X)) (zs : List X) → option_and_then (λ x. option_and_then (λ xs. Some (x ∷ xs)) p) o ≡ Some zs →
    (x : X) × (xs : List X) × (o ≡ Some x) × (p ≡ Some xs) × (x ∷ xs ≡ zs)
split_cons None p zs e = cc
split_cons (Some x) None zs e = cc
split_cons (Some x) (Some xs) zs e = (x, xs, refl, refl, same_Some (x ∷ xs) zs e)

made : (fs : List Field) → AllByRecursion FieldFits fs → (columns : List Column) (row : Cells) → column_cells fs columns ≡ Some row → Suit columns row
made fs all [] row e = subst (Suit []) (same_Some [] row e) tt
made fs all (column ∷ columns) row e =
    let (c, cs, first, rest, same) = split_cons _ _ row e in
    subst (Suit (column ∷ columns)) same (column_suits column fs c all first, made fs all columns cs rest)

-- the row that fields are
pub row_made : (columns : List Column) (fs : List Field) (row : Cells) → FieldsFit fs → row_from columns fs ≡ Some row → RowFits columns row
unfolding row_from
row_made columns fs row fit e = by (length fs == length columns) e
  where
    by : (b : Bool) → (if b then column_cells fs columns else None) ≡ Some row → RowFits columns row
    by true e = fits_of columns row (made fs fit.0 columns row e)
    by false e = cc
