-- Lines whose commands can be read.
use Rattle.std.proofs.Common.{◌≡◌, ℕ, zero, suc, ◌<◌, ◌≤◌, ◌^◌, Bool, true, false, List, [], ◌∷◌, length, map, get_or, take, Option, Some, None, refl, arith}
use Rattle.std.specs.Prelude.{◌&&◌, codes, IsUtf8, not, slice_get, option_map, if◌then◌else◌}
use Rattle.std.specs.List.{AllByRecursion, list_all}
use Rattle.std.specs.Option.{option_map_or}
use Rattle.std.proofs.lemmas.Bool.{and_parts}
use Rattle.std.proofs.lemmas.List.{length-take-le}
use Rattle.std.proofs.lemmas.List.Elements.{All-cons, All-nil}
use Rattle.std.proofs.lemmas.Str.{IsUtf8-append, IsUtf8-from_ascii, IsUtf8-nil}
use Rattle.std.proofs.lemmas.Str.Ascii.{IsAscii-from_all}
use Rattle.command_lines.specs.Fits.{CommandFits, NamesFit}
use Rattle.key_extract.specs.declared.key.Part.{Part}
use Rattle.table_schema.specs.declared.column.Column.{Column}
use Rattle.table_schema.specs.declared.column.CellKind.TheVariants.{Int}
use Rattle.table_schema.specs.declared.column.IndexSpec.{IndexSpec}
use Rattle.table_schema.specs.Shape.{TableShape}
use Rattle.table_schema.specs.Valid.{IsValidTable, are_distinct, has_good_key, is_name}
use Rattle.table_schema.proofs.Facts.{all_at, within_high}
use Rattle.table_state.specs.Parts.{IndexFits, IndicesFit}
use Rattle.table_state.specs.State.{columns_command, count_command, part_text}
use Rattle.table_state.proofs.Defining.{defined_again}
use Rattle.table_state.proofs.Names.{name_at, name_utf8, new_at}

pub columns_utf8 : IsUtf8 (codes "columns")
columns_utf8 = name_utf8 (codes "columns") refl

pub writes_utf8 : IsUtf8 (codes "writes")
writes_utf8 = name_utf8 (codes "writes") refl

pub indices_utf8 : IsUtf8 (codes "indices")
indices_utf8 = name_utf8 (codes "indices") refl

pub records_utf8 : IsUtf8 (codes "records")
records_utf8 = name_utf8 (codes "records") refl

dash_utf8 : IsUtf8 (codes "-")
dash_utf8 = IsUtf8-from_ascii (codes "-") (IsAscii-from_all (codes "-") (All-cons (λ b. b < 128) 45 [] (omega arith) (All-nil (λ b. b < 128))))

-- names of columns
names_utf8 : (columns : List Column) → list_all is_name (map (λ c. c.name) columns) ≡ true → AllByRecursion IsUtf8 (map (λ c. c.name) columns)
names_utf8 [] h = tt
names_utf8 (c ∷ cs) h =
    let parts = and_parts (is_name c.name) (list_all is_name (map (λ c. c.name) cs)) h in
    (name_utf8 c.name parts.0, names_utf8 cs parts.1)

-- and the one at a place
pub named_utf8 : {X : Type 0} (name : X → List ℕ) (xs : List X) → list_all is_name (map name xs) ≡ true → (k : ℕ) → IsUtf8 (option_map_or name (slice_get xs k) [])
named_utf8 name [] h k = IsUtf8-nil
named_utf8 name (x ∷ xs) h zero = name_utf8 (name x) (and_parts (is_name (name x)) (list_all is_name (map name xs)) h).0
named_utf8 name (x ∷ xs) h (suc k) = named_utf8 name xs (and_parts (is_name (name x)) (list_all is_name (map name xs)) h).1 k

part_utf8 : (columns : List Column) → list_all is_name (map (λ c. c.name) columns) ≡ true → (part : Part) → IsUtf8 (part_text columns part)
part_utf8 columns h part = IsUtf8-append (if part.falling then codes "-" else []) _ (mark part.falling) (named_utf8 (λ (c : Column). c.name) columns h part.column)
  where
    mark : (falling : Bool) → IsUtf8 (if falling then codes "-" else [])
    mark true = dash_utf8
    mark false = IsUtf8-nil

parts_utf8 : (columns : List Column) → list_all is_name (map (λ c. c.name) columns) ≡ true → (parts : List Part) → AllByRecursion IsUtf8 (map (part_text columns) parts)
parts_utf8 columns h [] = tt
parts_utf8 columns h (part ∷ parts) = (part_utf8 columns h part, parts_utf8 columns h parts)

key_utf8 : (columns : List Column) → list_all is_name (map (λ c. c.name) columns) ≡ true → (key : Option (List Part)) → NamesFit (option_map (map (part_text columns)) key)
key_utf8 columns h None = tt
key_utf8 columns h (Some parts) = parts_utf8 columns h parts

module _ (shape : TableShape) (valid : IsValidTable shape) where
  abbrev named : List (List ℕ)
  named = map (λ (c : Column). c.name) shape.columns

  are_named : list_all is_name named ≡ true
  are_named = (and_parts (list_all is_name named) (are_distinct _ named) valid.column_names).0

  pub name_fits : IsUtf8 shape.name
  name_fits = name_utf8 shape.name valid.name

  pub columns_fit : CommandFits (columns_command shape)
  columns_fit = (name_fits, columns_utf8, names_utf8 shape.columns are_named)

  pub count_fits : (name : List ℕ) (count : ℕ) → IsUtf8 name → count < 2 ^ 64 → CommandFits (count_command shape name count)
  count_fits name count utf8 few = (name_fits, utf8, few)

  no_column : Column
  no_column = record { name = []; cell = Int; null = false }

  -- each index is defined again by its line, behind those before it
  pub index_fits : (k : ℕ) (d : IndexSpec) → k < length shape.indices → IndexFits shape (take k shape.indices) (get_or shape.indices k d)
  index_fits k d lt =
      let index = get_or shape.indices k d in
      let most : length shape.indices ≤ 8 = within_high 1 8 (length shape.indices) valid.indices in
      let count : length (take k shape.indices) ≡ k = length-take-le k shape.indices (omega (arith, lt)) in
      let name = name_at (λ (i : IndexSpec). i.name) shape.indices k d lt valid.index_names in
      let new = new_at (λ (i : IndexSpec). i.name) shape.indices k d lt valid.index_names in
      record {
        line = (name_fits, name_utf8 index.name name, key_utf8 shape.columns are_named index.key);
        again = defined_again shape.columns valid.column_names no_column (take k shape.indices) index (omega (arith, lt, most, count))
            (λ i. name i && not (new i)) (all_at (has_good_key (length shape.columns)) shape.indices k d valid.keys lt);
      }

-- so are the indices that fit a declaration
pub each_index_fits : (shape : TableShape) (count : ℕ) (indices : List IndexSpec) → IndicesFit shape count indices → (k : ℕ) (d : IndexSpec) → k < length indices → IndexFits shape (take k indices) (get_or indices k d)
each_index_fits shape count indices fit k d lt =
    let found = index_fits (record shape { indices = indices }) fit.valid k d lt in
    record { line = found.line; again = found.again }
