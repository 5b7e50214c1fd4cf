-- The cells that a command gives a column.
use Rattle.std.proofs.Common.{◌≡◌, ℕ, Bool, true, false, cond, List, [], ◌∷◌, Option, Some, None, refl, subst}
use Rattle.std.specs.Prelude.{bytes_eq, find, if◌then◌else◌, option_map, option_and_then}
use Rattle.std.specs.List.{AllByRecursion}
use Rattle.std.proofs.lemmas.Option.{same_Some}
use Rattle.command_lines.specs.Fits.{CellFits, FieldFits, ValueFits}
use Rattle.key_extract.specs.declared.cell.Cell.{Cell}
use Rattle.table_cmd.specs.declared.command.Field.{Field}
use Rattle.table_cmd.specs.declared.command.Value.{Value}
use Rattle.table_cmd.specs.declared.command.Value.TheVariants as values
use Rattle.table_schema.specs.declared.column.Column.{Column}
use Rattle.table_terms.specs.Values.{can_hold, cell_for, column_cell, value_named}

-- a column can hold the cell, and a line can spell it
abbrev pub Suits : Column → Cell → Type 0
Suits column c = (can_hold column c ≡ true) × CellFits c

-- the cell that a value is
pub value_suits : (column : Column) (v : Value) (c : Cell) → ValueFits v → cell_for column v ≡ Some c → Suits column c
value_suits column values.Other c fits e = cc
value_suits column (values.Cell d) c fits e = by (can_hold column d) refl e
  where
    by : (b : Bool) → can_hold column d ≡ b → (if b then Some d else None) ≡ Some c → Suits column c
    by true held e = subst (Suits column) (same_Some d c e) (held, fits)
    by false held e = cc

named_fits : (name : List ℕ) (fs : List Field) (v : Value) → AllByRecursion FieldFits fs → value_named name fs ≡ Some v → ValueFits v
named_fits name [] v all e = cc
named_fits name (f ∷ fs) v all e = by (bytes_eq f.name name) (named_fits name fs v all.1) e
  where
    by : (b : Bool) → (value_named name fs ≡ Some v → ValueFits v) → option_map (λ (g : Field). g.value) (cond b (Some f) (find (λ (g : Field). bytes_eq g.name name) fs)) ≡ Some v → ValueFits v
    by true later e = subst ValueFits (same_Some f.value v e) all.0.1
    by false later e = later e

-- the cell that fields give a column
pub column_suits : (column : Column) (fs : List Field) (c : Cell) → AllByRecursion FieldFits fs → column_cell column fs ≡ Some c → Suits column c
column_suits column fs c all e = by (value_named column.name fs) (λ v. named_fits column.name fs v all) e
  where
    by : (o : Option Value) → ((v : Value) → o ≡ Some v → ValueFits v) → option_and_then (cell_for column) o ≡ Some c → Suits column c
    by None fits e = cc
    by (Some v) fits e = value_suits column v c (fits v refl) e
