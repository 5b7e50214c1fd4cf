-- What of a declaration stands in another one too.
use Rattle.std.specs.Prelude.{ℕ, Bool, true, false, ◌&&◌, ◌==◌, not, cond, List, [], length, Option, Some, None, is_none, position, slice_get, bytes_eq}
use Rattle.std.specs.List.{zip}
use Rattle.std.specs.Option.{option_map_or}
use Rattle.container_model.specs.declared.handle.Kind.{Kind}
use Rattle.container_model.specs.declared.handle.Kind.TheVariants.{Sequenced, Random, Ordered, Ranked, Hashed}
use Rattle.key_extract.specs.declared.key.Part.{Part}
use Rattle.table_alter.specs.Sources.{place_of}
use Rattle.table_schema.specs.declared.column.CellKind.{CellKind}
use Rattle.table_schema.specs.declared.column.CellKind.TheVariants.{Int, Text, Bool as OfBool}
use Rattle.table_schema.specs.declared.column.Column.{Column}
use Rattle.table_schema.specs.declared.column.IndexSpec.{IndexSpec}
use Rattle.table_schema.specs.Shape.{TableShape}

abbrev pub are_both : Bool → Bool → Bool
are_both a b = cond a b (not b)

abbrev pub is_same_kind : Kind → Kind → Bool
is_same_kind Sequenced Sequenced = true
is_same_kind Random Random = true
is_same_kind Ordered Ordered = true
is_same_kind Ranked Ranked = true
is_same_kind Hashed Hashed = true
is_same_kind _ _ = false

abbrev pub is_same_cell : CellKind → CellKind → Bool
is_same_cell Int Int = true
is_same_cell Text Text = true
is_same_cell OfBool OfBool = true
is_same_cell _ _ = false

-- the name of a column
abbrev pub name_at : List Column → ℕ → List ℕ
name_at columns place = option_map_or (λ c. c.name) (slice_get columns place) []

module _ (before after : List Column) where
  -- parts of keys under two declarations are the same: their columns have one name, and both fall or rise
  abbrev pub is_same_part : Part → Part → Bool
  is_same_part a b = are_both a.falling b.falling && bytes_eq (name_at before a.column) (name_at after b.column)

  -- the place of the first parts that are not the same
  abbrev pub first_other : List Part → List Part → Option ℕ
  first_other a b = position (λ p. not (is_same_part p.0 p.1)) (zip a b)

  abbrev pub are_same_parts : List Part → List Part → Bool
  are_same_parts a b = (length a == length b) && is_none (first_other a b)

  abbrev pub is_same_key : Option (List Part) → Option (List Part) → Bool
  is_same_key (Some a) (Some b) = are_same_parts a b
  is_same_key None None = true
  is_same_key _ _ = false

  -- indices of one name, kind and key, both unique or neither
  abbrev pub is_same_index : IndexSpec → IndexSpec → Bool
  is_same_index a b = bytes_eq a.name b.name && (is_same_kind a.kind b.kind && (are_both a.unique b.unique && is_same_key a.key b.key))

-- where the index stood before, if it did
abbrev pub place_before : TableShape → TableShape → IndexSpec → Option ℕ
place_before before after index = position (λ i. is_same_index before.columns after.columns i index) before.indices

-- where an index stands now, if it does
abbrev pub place_after : TableShape → TableShape → IndexSpec → Option ℕ
place_after before after index = position (λ i. is_same_index before.columns after.columns index i) after.indices

-- an index is not there any more
abbrev pub index_goes : TableShape → TableShape → IndexSpec → Bool
index_goes before after index = is_none (place_after before after index)

-- a column is not there any more
abbrev pub column_goes : List Column → Column → Bool
column_goes after column = is_none (place_of after column.name)

-- columns of one type, both with null or neither
abbrev pub is_same_column : Column → Column → Bool
is_same_column a b = is_same_cell a.cell b.cell && are_both a.null b.null
