-- What a table of a schema is, apart from where it lies in memory.
use Rattle.std.specs.Prelude.{ℕ, List, Option, map}
use Rattle.key_extract.specs.declared.key.Part.{Part}
use Rattle.container_model.specs.declared.handle.Spec.{Spec}
use Rattle.table_schema.specs.declared.column.Column.{Column}
use Rattle.table_schema.specs.declared.column.IndexSpec.{IndexSpec}

pub record TableShape : Type 0 where
  pub name : List ℕ
  -- the most records that it may hold
  pub max : ℕ
  pub columns : List Column
  pub indices : List IndexSpec
  -- its place in the schema, and the number of tables there
  pub place : ℕ
  pub tables : ℕ

-- the keys of the indices
abbrev pub keys_of : List IndexSpec → List (Option (List Part))
keys_of indices = map (λ index. index.key) indices

-- the indices as a container takes them
abbrev pub specs_of : List IndexSpec → List Spec
specs_of indices = map (λ index. record { kind = index.kind; unique = index.unique }) indices
