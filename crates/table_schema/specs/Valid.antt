-- Which tables and schemas are valid.
use Rattle.std.specs.Prelude.{◌≡◌, ℕ, ◌==◌, nat_le, nat_lt, Bool, true, false, cond, not, ◌&&◌, ◌||◌, List, [], ◌∷◌, length, map, replicate, is_none, bytes_eq, IsTrue}
use Rattle.std.specs.Char.{is_ascii_alphanumeric}
use Rattle.std.specs.List.{AllByRecursion, list_all, list_any, range_with_len}
use Rattle.std.specs.Option.{option_map_or}
use Rattle.key_extract.specs.declared.key.Part.{Part}
use Rattle.container_model.specs.declared.handle.Kind.{Kind}
use Rattle.container_model.specs.State.{has_key_kind, is_hashed_kind}
use Rattle.table_schema.specs.declared.column.IndexSpec.{IndexSpec}
use Rattle.table_schema.specs.Shape.{TableShape}

-- low ≤ n ≤ high
abbrev pub is_within : ℕ → ℕ → ℕ → Bool
is_within low high n = nat_le low n && nat_le n high

-- no member is the same as a later one
abbrev pub are_distinct : {X : Type 0} → (X → X → Bool) → List X → Bool
are_distinct same [] = true
are_distinct same (x ∷ xs) = not (list_any (same x) xs) && are_distinct same xs

-- a letter, a digit or `_`
abbrev pub is_name_byte : ℕ → Bool
is_name_byte b = is_ascii_alphanumeric b || b == 95

-- 1 to 32 such bytes
abbrev pub is_name : List ℕ → Bool
is_name name = is_within 1 32 (length name) && list_all is_name_byte name

-- names, each once
abbrev pub are_names : List (List ℕ) → Bool
are_names names = list_all is_name names && are_distinct bytes_eq names

-- each part names a column, no two the same one
abbrev pub names_columns : ℕ → List Part → Bool
names_columns columns parts =
    list_all (λ part. nat_lt part.column columns) parts && are_distinct (λ a b. a.column == b.column) parts

-- a key of 1 to 4 parts for an index of this kind; a hashed key has no falling part
abbrev pub is_key : ℕ → Kind → List Part → Bool
is_key columns kind parts =
    is_within 1 4 (length parts) && (names_columns columns parts && (not (is_hashed_kind kind) || list_all (λ part. not part.falling) parts))

-- an ordered, ranked or hashed index has a key; a sequence has none, and is not unique
abbrev pub has_good_key : ℕ → IndexSpec → Bool
has_good_key columns index =
    cond (has_key_kind index.kind) (option_map_or (is_key columns index.kind) index.key false) (is_none index.key && not index.unique)

-- what each table of a schema keeps
pub record IsValidTable (t : TableShape) : Type 0 where
  pub name : IsTrue (is_name t.name)
  pub max : IsTrue (is_within 1 4294967295 t.max)
  pub columns : IsTrue (is_within 1 16 (length t.columns))
  pub indices : IsTrue (is_within 1 8 (length t.indices))
  pub column_names : IsTrue (are_names (map (λ column. column.name) t.columns))
  pub index_names : IsTrue (are_names (map (λ index. index.name) t.indices))
  pub keys : IsTrue (list_all (has_good_key (length t.columns)) t.indices)
  pub place : IsTrue (nat_lt t.place t.tables)
  pub tables : IsTrue (is_within 1 16 t.tables)

-- what a whole schema keeps
pub record IsValidSchema (ts : List TableShape) : Type 0 where
  pub count : IsTrue (is_within 1 16 (length ts))
  pub names : IsTrue (are_names (map (λ t. t.name) ts))
  pub valid : AllByRecursion IsValidTable ts
  -- each table knows its place, and how many there are
  pub places : map (λ t. t.place) ts ≡ range_with_len 0 (length ts)
  pub tables : map (λ t. t.tables) ts ≡ replicate (length ts) (length ts)
