-- A schema whose keys name columns by their places.
use Rattle.std.specs.Prelude.{ℕ, ◌+◌, ◌==◌, unsigned_abs, List, [], ◌∷◌, length, map, Bool, true, false, if◌then◌else◌, Option, Some, None, option_map, position, bytes_eq}
use Rattle.key_extract.specs.declared.key.Part.{Part}
use Rattle.table_schema.specs.declared.column.Column.{Column}
use Rattle.table_schema.specs.declared.column.IndexSpec.{IndexSpec}
use Rattle.table_schema.specs.Draft.{◌>>=◌, all_of, IndexDraft, TableDraft}
use Rattle.table_schema.specs.Shape.{TableShape}
use Rattle.table_schema.specs.Valid.{has_good_key}

-- the part at the column of this name
abbrev pub part_at : List Column → Bool → List ℕ → Option Part
part_at columns falling name =
    option_map (λ place. record { column = place; falling = falling }) (position (λ column. bytes_eq column.name name) columns)

-- the name of a column, with `-` before it for a falling part
abbrev pub part_of : List Column → List ℕ → Option Part
part_of columns [] = part_at columns false []
part_of columns (b ∷ name) = if b == 45 then part_at columns true name else part_at columns false (b ∷ name)

-- the parts of a key, where there is one
abbrev pub parts_of : List Column → Option (List (List ℕ)) → Option (Option (List Part))
parts_of columns None = Some None
parts_of columns (Some texts) = option_map Some (all_of (map (part_of columns) texts))

-- an index with this key
abbrev pub with_key : IndexDraft → Option (List Part) → IndexSpec
with_key draft key = record { name = draft.name; kind = draft.kind; unique = draft.unique; key = key }

-- where its key can be read, and is good
unfoldable pub index_for : List Column → IndexDraft → Option IndexSpec
index_for columns draft = do
  key ← parts_of columns draft.key
  if has_good_key (length columns) (with_key draft key) then Some (with_key draft key) else None

-- the table at a place, of so many
unfoldable pub table_for : ℕ → ℕ → TableDraft → Option TableShape
table_for tables place draft = do
  indices ← all_of (map (index_for draft.columns) draft.indices)
  Some (record { name = draft.name; max = unsigned_abs draft.max; columns = draft.columns; indices = indices; place = place; tables = tables })

-- the tables from a place on
abbrev pub tables_from : ℕ → ℕ → List TableDraft → List (Option TableShape)
tables_from tables place [] = []
tables_from tables place (draft ∷ drafts) = table_for tables place draft ∷ tables_from tables (place + 1) drafts

-- the tables of a file, where each key is good
abbrev pub tables_for : List TableDraft → Option (List TableShape)
tables_for drafts = all_of (tables_from (length drafts) 0 drafts)
