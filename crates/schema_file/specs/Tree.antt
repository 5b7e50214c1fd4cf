-- What the tree of a schema file says.
use Rattle.std.specs.Prelude.{ℕ, ℤ, pos, List, [], ◌∷◌, map, Bool, true, false, ◌&&◌, if◌then◌else◌, Option, Some, None, option_map, option_and_then, codes, bytes_eq}
use Rattle.std.specs.List.{list_any}
use Rattle.toml.specs.Data.{Data, Items, no_items, item, Members, no_members, member, get_member, as_str, as_integer, as_bool, as_array, as_table}
use Rattle.container_model.specs.declared.handle.Kind.{Kind}
use Rattle.table_schema.specs.declared.column.Column.{Column}
use Rattle.table_schema.specs.declared.column.CellKind.{CellKind}
use Rattle.table_schema.specs.declared.column.CellKind.TheVariants as cells
use Rattle.table_schema.specs.Draft.{◌>>=◌, all_of, IndexDraft, TableDraft}
use Rattle.table_schema.specs.KindText.{kind_of}

-- the items of an array as a list
abbrev pub list_of : Items → List Data
list_of no_items = []
list_of (item d ds) = d ∷ list_of ds

-- each key is one of these
abbrev pub has_only : List (List ℕ) → Members → Bool
has_only keys no_members = true
has_only keys (member k d ms) = list_any (λ key. bytes_eq key k) keys && has_only keys ms

-- the members of a table that has no other keys
abbrev pub table_with : List (List ℕ) → Data → Option Members
table_with keys d = option_and_then (λ ms. if has_only keys ms then Some ms else None) (as_table d)

-- what an array holds, where each item can be read
abbrev pub each_of : {X : Type 0} → (Data → Option X) → Data → Option (List X)
each_of read d = option_and_then (λ ds. all_of (map read (list_of ds))) (as_array d)

-- what a key holds, which may be missing
abbrev pub optional : {X : Type 0} → X → (Data → Option X) → Option Data → Option X
optional missing read None = Some missing
optional missing read (Some d) = read d

-- the text at a key
abbrev pub text_at : List ℕ → Members → Option (List ℕ)
text_at key ms = option_and_then as_str (get_member key ms)

-- the truth value at a key; where it is missing, false
abbrev pub truth_at : List ℕ → Members → Option Bool
truth_at key ms = optional false as_bool (get_member key ms)

-- the type of cells that a text names
abbrev pub cell_of : List ℕ → Option CellKind
cell_of text =
    if bytes_eq text (codes "int") then Some cells.Int
    else (if bytes_eq text (codes "text") then Some cells.Text
    else (if bytes_eq text (codes "bool") then Some cells.Bool
    else None))

-- a column: its name, the type of its cells, and whether they may be null
unfoldable pub column_of : Data → Option Column
column_of d = do
  ms ← table_with (codes "name" ∷ codes "cell" ∷ codes "null" ∷ []) d
  name ← text_at (codes "name") ms
  cell ← option_and_then cell_of (text_at (codes "cell") ms)
  null ← truth_at (codes "null") ms
  Some (record { name = name; cell = cell; null = null })

-- the greatest number of records; where it is missing, the greatest of all
abbrev pub max_of : Members → Option ℤ
max_of ms = optional (pos 4294967295) as_integer (get_member (codes "max") ms)

-- the texts of a key, which need not be there
abbrev pub key_of : Members → Option (Option (List (List ℕ)))
key_of ms = optional None (λ d. option_map Some (each_of as_str d)) (get_member (codes "key") ms)

-- the kind of an index
abbrev pub kind_at : Members → Option Kind
kind_at ms = option_and_then kind_of (text_at (codes "kind") ms)

-- an index: its name and kind, and what may be missing
unfoldable pub index_of : Data → Option IndexDraft
index_of d = do
  ms ← table_with (codes "name" ∷ codes "kind" ∷ codes "unique" ∷ codes "key" ∷ []) d
  name ← text_at (codes "name") ms
  kind ← kind_at ms
  unique ← truth_at (codes "unique") ms
  key ← key_of ms
  Some (record { name = name; kind = kind; unique = unique; key = key })

-- a table: its name, its greatest number of records, its columns and its indices
unfoldable pub table_of : Data → Option TableDraft
table_of d = do
  ms ← table_with (codes "name" ∷ codes "max" ∷ codes "column" ∷ codes "index" ∷ []) d
  name ← text_at (codes "name") ms
  max ← max_of ms
  columns ← option_and_then (each_of column_of) (get_member (codes "column") ms)
  indices ← option_and_then (each_of index_of) (get_member (codes "index") ms)
  Some (record { name = name; max = max; columns = columns; indices = indices })

-- the tables of a document, which has the key `table` alone
unfoldable pub drafts_of : Members → Option (List TableDraft)
drafts_of ms =
    if has_only (codes "table" ∷ []) ms then option_and_then (each_of table_of) (get_member (codes "table") ms) else None
