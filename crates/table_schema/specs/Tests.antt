-- What is asked of the numbers and of the names in a schema file.
use Rattle.std.specs.Prelude.{ℤ, pos, int_le, Bool, true, ◌&&◌, List, length, map}
use Rattle.std.specs.List.{list_all}
use Rattle.std.specs.Option.{option_map_or}
use Rattle.table_schema.specs.Draft.{IndexDraft, TableDraft}
use Rattle.table_schema.specs.Valid.{is_within, are_names}

-- 1 to 4 key parts, where there is a key
abbrev pub index_is_within_limits : IndexDraft → Bool
index_is_within_limits index = option_map_or (λ key. is_within 1 4 (length key)) index.key true

-- 1 to 4294967295 records
abbrev pub max_is_within_limits : ℤ → Bool
max_is_within_limits max = int_le (pos 1) max && int_le max (pos 4294967295)

-- 1 to 16 columns, 1 to 8 indices
unfoldable pub table_is_within_limits : TableDraft → Bool
table_is_within_limits table =
    max_is_within_limits table.max
    && (is_within 1 16 (length table.columns)
    && (is_within 1 8 (length table.indices)
    && list_all index_is_within_limits table.indices))

-- 1 to 16 tables
unfoldable pub is_within_limits : List TableDraft → Bool
is_within_limits tables = is_within 1 16 (length tables) && list_all table_is_within_limits tables

-- the columns have names, each once, and so have the indices
unfoldable pub has_good_names : TableDraft → Bool
has_good_names table =
    are_names (map (λ column. column.name) table.columns) && are_names (map (λ index. index.name) table.indices)

-- and so have the tables
unfoldable pub have_good_names : List TableDraft → Bool
have_good_names tables = are_names (map (λ table. table.name) tables) && list_all has_good_names tables
