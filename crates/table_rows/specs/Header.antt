-- Names of a first row, and the columns that they name.
use Rattle.std.specs.Prelude.{ℕ, ◌&&◌, Bool, not, List, length, count_by, Option, is_none, is_some, position, nat_lt, bytes_eq}
use Rattle.std.specs.List.{list_any}
use Rattle.table_schema.specs.declared.column.Column.{Column}

-- the place of the first of these names that is this one
abbrev pub place_in : List (List ℕ) → List ℕ → Option ℕ
place_in names name = position (λ other. bytes_eq other name) names

abbrev pub has_column : List Column → List ℕ → Bool
has_column columns name = list_any (λ column. bytes_eq column.name name) columns

-- the first name that is that of no column
abbrev pub unknown_in : List Column → List (List ℕ) → Option ℕ
unknown_in columns names = position (λ name. not (has_column columns name)) names

-- the first column that can't be null and is not named
abbrev pub missing_in : List Column → List (List ℕ) → Option ℕ
missing_in columns names = position (λ column. not column.null && is_none (place_in names column.name)) columns

-- there are more names than columns that are named
abbrev pub has_twice : List Column → List (List ℕ) → Bool
has_twice columns names = nat_lt (count_by (λ column. is_some (place_in names column.name)) columns) (length names)
