-- An index that is defined for a table that is there, and tables with an index more or less.
use Rattle.std.specs.Prelude.{◌≡◌, ℕ, ◌<◌, Bool, true, ◌&&◌, ◌∷◌, ◌++◌, [], if◌then◌else◌, not, nat_lt, List, length, map, remove, Option, None, bytes_eq}
use Rattle.std.specs.List.{list_any}
use Rattle.std.specs.Option.{option_map_or}
use Rattle.key_extract.specs.declared.key.Part.{Part}
use Rattle.table_schema.specs.declared.column.Column.{Column}
use Rattle.table_schema.specs.declared.column.IndexSpec.{IndexSpec}
use Rattle.table_schema.specs.declared.define.DefineFault.{DefineFault}
use Rattle.table_schema.specs.declared.define.DefineFault.TheVariants.{Definition, Memory}
use Rattle.table_schema.specs.Draft.{IndexDraft}
use Rattle.table_schema.specs.Resolved.{index_for, parts_of}
use Rattle.table_schema.specs.Shape.{TableShape}
use Rattle.table_schema.specs.Tests.{index_is_within_limits}
use Rattle.table_schema.specs.Valid.{is_name, is_within, has_good_key}

-- whether a name is one that none of the indices has
abbrev pub is_new_name : List IndexSpec → List ℕ → Bool
is_new_name indices name = is_name name && not (list_any (bytes_eq name) (map (λ index. index.name) indices))

-- the key of these texts, where they are 1 to 4 that name columns, or that there is none
abbrev pub given_key : List Column → Option (List (List ℕ)) → Option (Option (List Part))
given_key columns key = if option_map_or (λ texts. is_within 1 4 (length texts)) key true then parts_of columns key else None

-- the index of this draft, where there is room for one more, its name is new and good, and its key is good
abbrev pub defined : List Column → List IndexSpec → IndexDraft → Option IndexSpec
defined columns indices draft =
    if nat_lt (length indices) 8 && (is_new_name indices draft.name && index_is_within_limits draft) then index_for columns draft else None

-- why an index is not defined: it may not be, or it may, and memory was refused
abbrev pub IsFault : Option IndexSpec → DefineFault → Type 0
IsFault index Definition = index ≡ None
IsFault index Memory = ¬ (index ≡ None)

-- an index may be one of a table
pub record IsNewIndex (columns : List Column) (indices : List IndexSpec) (index : IndexSpec) : Type 0 where
  pub room : length indices < 8
  pub name : is_new_name indices index.name ≡ true
  pub key : has_good_key (length columns) index ≡ true

abbrev pub with_index : TableShape → IndexSpec → TableShape
with_index t index = record t { indices = t.indices ++ index ∷ [] }

abbrev pub without_index : TableShape → ℕ → TableShape
without_index t index = record t { indices = remove t.indices index }

-- with an index in place of all
abbrev pub with_only_index : TableShape → IndexSpec → TableShape
with_only_index t index = record t { indices = index ∷ [] }
