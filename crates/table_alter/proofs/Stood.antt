-- The altered table can stand, where the table can.
use Rattle.std.proofs.Common.{◌≡◌, ℕ, ◌+◌, ◌<◌, ◌≤◌, ◌^◌, suc, cond, Bool, true, false, List, [], ◌∷◌, length, map, not, Option, Some, None, refl, ◌∙◌, arith}
use Rattle.std.specs.Prelude.{bytes_eq, find, is_some, nat_le, nat_lt, option_map, position, slice_get, unwrap_or}
use Rattle.std.specs.List.{AllByRecursion, position_or_len, zip}
use Rattle.std.proofs.lemmas.Bool.{leb-false, ltb-false}
use Rattle.std.proofs.lemmas.List.{length-map}
use Rattle.command_lines.specs.Fits.{CellFits}
use Rattle.container_model.specs.declared.handle.Entry.{Entry}
use Rattle.container_model.specs.State.{IsState}
use Rattle.key_extract.specs.declared.cell.Cell.{Cell}
use Rattle.key_extract.specs.declared.cell.Cell.TheVariants.{Null}
use Rattle.key_extract.specs.Keys.{key_at}
use Rattle.list_model.proofs.Lists.{All-of_map, find_none, some_at}
use Rattle.table_alter.specs.Altered.{AreHeld, FillsFit, altered_table, entries_of, first_beyond}
use Rattle.table_alter.specs.Sources.{cell_from, entry_from, first_unheld, given_for, place_of, row_from, source_at, source_of, sources_of}
use Rattle.table_alter.specs.declared.source.Fill.{Fill}
use Rattle.table_alter.specs.declared.source.Source.{Source}
use Rattle.table_alter.specs.declared.source.Source.TheVariants.{Kept, Given}
use Rattle.table_schema.specs.declared.column.Column.{Column}
use Rattle.table_schema.specs.Shape.{TableShape}
use Rattle.table_schema.specs.Valid.{IsValidTable}
use Rattle.table_state.specs.Standing.{CanStand, RowFits}
use Rattle.table_terms.specs.Table.{Cells, TableState, row_order}
use Rattle.table_terms.specs.Values.{can_hold}

-- ---- cells

abbrev SourceFits : Source → Type 0
SourceFits (Kept place) = Unit {0}
SourceFits (Given cell) = CellFits cell

given_case : (b : Bool) (f : Fill) (o : Option Fill) → CellFits f.cell → CellFits (unwrap_or (option_map (λ x. x.cell) o) Null) → CellFits (unwrap_or (option_map (λ x. x.cell) (cond b (Some f) o)) Null)
given_case true f o here rest = here
given_case false f o here rest = rest

given_fits : (fills : List Fill) (name : List ℕ) → FillsFit fills → CellFits (unwrap_or (given_for fills name) Null)
given_fits [] name all = tt
given_fits (f ∷ fills) name all = given_case (bytes_eq f.column name) f (find (λ x. bytes_eq x.column name) fills) all.0 (given_fits fills name all.1)

at_fits : (place : Option ℕ) (given : Option Cell) → CellFits (unwrap_or given Null) → SourceFits (source_at place given)
at_fits (Some place) given fits = tt
at_fits None given fits = fits

all_fit : (before : List Column) (fills : List Fill) → FillsFit fills → (after : List Column) → AllByRecursion SourceFits (sources_of before fills after)
all_fit before fills fit [] = tt
all_fit before fills fit (column ∷ after) = (at_fits (place_of before column.name) (given_for fills column.name) (given_fits fills column.name fit), all_fit before fills fit after)

slice_fits : (cells : Cells) (place : ℕ) → AllByRecursion CellFits cells → (o : Option Cell) → slice_get cells place ≡ o → CellFits (unwrap_or o Null)
slice_fits cells place all None is = tt
slice_fits cells place all (Some cell) is = some_at CellFits cells place all cell is

cell_fits : (cells : Cells) → AllByRecursion CellFits cells → (s : Source) → SourceFits s → CellFits (cell_from cells s)
cell_fits cells all (Kept place) fits = slice_fits cells place all (slice_get cells place) refl
cell_fits cells all (Given cell) fits = fits

row_fits : (cells : Cells) → AllByRecursion CellFits cells → (sources : List Source) → AllByRecursion SourceFits sources → AllByRecursion CellFits (row_from sources cells)
row_fits cells all [] fit = tt
row_fits cells all (s ∷ sources) fit = (cell_fits cells all s fit.0, row_fits cells all sources fit.1)

-- ---- what columns hold

passed_case : {X : Type 0} (p : X → Bool) (x : X) (xs : List X) (b : Bool) → p x ≡ b → suc (length xs) ≤ cond (not b) (1 + position_or_len p xs) 0
    → (length xs ≤ position_or_len p xs → AllByRecursion (λ y. p y ≡ false) xs) → (p x ≡ false) × AllByRecursion (λ y. p y ≡ false) xs
passed_case p x xs true is le rest = absurd (omega (arith, le))
passed_case p x xs false is le rest = (is, rest (omega (arith, le)))

each_passed : {X : Type 0} (p : X → Bool) (xs : List X) → length xs ≤ position_or_len p xs → AllByRecursion (λ x. p x ≡ false) xs
each_passed p [] le = tt
each_passed p (x ∷ xs) le = passed_case p x xs (p x) refl le (each_passed p xs)

none_passes : {X : Type 0} (p : X → Bool) (xs : List X) → position p xs ≡ None → AllByRecursion (λ x. p x ≡ false) xs
none_passes p xs none = go (nat_lt (position_or_len p xs) (length xs)) refl none
  where
    go : (b : Bool) → nat_lt (position_or_len p xs) (length xs) ≡ b → cond b (Some (position_or_len p xs)) None ≡ None → AllByRecursion (λ x. p x ≡ false) xs
    go true is e = cc
    go false is e = each_passed p xs (ltb-false (position_or_len p xs) (length xs) is)

not_false : (b : Bool) → not b ≡ false → b ≡ true
not_false true e = refl
not_false false e = cc

each_held : (pairs : List (Column × Cell)) → AllByRecursion (λ p. not (can_hold p.0 p.1) ≡ false) pairs → AllByRecursion (λ p. can_hold p.0 p.1 ≡ true) pairs
each_held [] all = tt
each_held (p ∷ pairs) all = (not_false (can_hold p.0 p.1) all.0, each_held pairs all.1)

-- ---- records

module _ (t : TableState) (after : TableShape) (fills : List Fill) (fit : FillsFit fills) where
  abbrev sources : List Source
  sources = sources_of t.shape.columns fills after.columns

  rows : (es : List (Entry Cells)) → AllByRecursion (λ e. RowFits t.shape.columns e.row) es → AllByRecursion (λ e. first_unheld after.columns e.row ≡ None) (map (entry_from sources) es)
      → AllByRecursion (λ e. RowFits after.columns e.row) (map (entry_from sources) es)
  rows [] fits held = tt
  rows (e ∷ es) fits held = (
    record {
      count = length-map sources (cell_from e.row) ∙ length-map after.columns (source_of t.shape.columns fills);
      held = each_held (zip after.columns (row_from sources e.row)) (none_passes (λ p. not (can_hold p.0 p.1)) (zip after.columns (row_from sources e.row)) held.0);
      cells = row_fits e.row fits.0.cells sources (all_fit t.shape.columns fills fit after.columns);
    },
    rows es fits.1 held.1,
  )

  stamps : (es : List (Entry Cells)) → AllByRecursion (λ e. 1 ≤ e.handle.stamp) es → AllByRecursion (λ e. 1 ≤ e.handle.stamp) (map (entry_from sources) es)
  stamps es all = All-of_map (entry_from sources) (λ e. 1 ≤ e.handle.stamp) es all

  beyond_none : (o : Option (Entry Cells)) → option_map (λ e. e.handle) o ≡ None → o ≡ None
  beyond_none None e = refl
  beyond_none (Some x) e = cc

  below : (es : List (Entry Cells)) → AllByRecursion (λ e. nat_le after.max e.handle.slot ≡ false) es → AllByRecursion (λ e. e.handle.slot < after.max) es
  below [] all = tt
  below (e ∷ es) all = (leb-false after.max e.handle.slot all.0, below es all.1)

  pub stands : IsValidTable after → t.records.writes < 2 ^ 64 → IsState (λ keys index. is_some (key_at keys index)) row_order (altered_table t after fills).records
      → AreHeld after (entries_of t after fills) → first_beyond after.max (entries_of t after fills) ≡ None → CanStand t → CanStand (altered_table t after fills)
  stands valid fits kept held within was = record {
    declared = valid;
    indices = record { keys = refl; specs = refl };
    most = refl;
    max = refl;
    kept = kept;
    writes = fits;
    stamps = stamps t.records.entries was.stamps;
    slots = below (entries_of t after fills) (find_none (λ e. nat_le after.max e.handle.slot) (entries_of t after fills) (beyond_none (find (λ e. nat_le after.max e.handle.slot) (entries_of t after fills)) within));
    rows = rows t.records.entries was.rows held;
  }
