-- A table: what it is declared as, and what it holds.
use Rattle.std.specs.Prelude.{◌≡◌, ℕ, ◌-◌, List, [], length, map, Option, slice_get}
use Rattle.std.specs.Option.{option_map_or}
use Rattle.std.specs.declared.cmp.Ordering.{Ordering}
use Rattle.container_model.specs.declared.handle.Spec.{Spec}
use Rattle.container_model.specs.State.{State, empty}
use Rattle.key_extract.specs.declared.cell.Cell.{Cell}
use Rattle.key_extract.specs.declared.key.Part.{Part}
use Rattle.key_extract.specs.Keys.{parts_at, key_cmp, probe_cmp}
use Rattle.table_schema.specs.declared.column.IndexSpec.{IndexSpec}
use Rattle.table_schema.specs.Shape.{TableShape}

-- the keys of a table's indices, and its rows
abbrev pub Keys : Type 0
Keys = List (Option (List Part))

abbrev pub Cells : Type 0
Cells = List Cell

-- what a table is declared as, and what it holds
pub record TableState : Type 0 where
  pub shape : TableShape
  pub records : State Keys Cells

-- how two rows compare by the key of an index, and a row to a search key
abbrev pub row_order : Keys → ℕ → Cells → Cells → Ordering
row_order keys index = key_cmp (parts_at keys index)

abbrev pub probe_order : Keys → ℕ → Cells → Cells → Ordering
probe_order keys index row probe = probe_cmp (parts_at keys index) row probe

abbrev pub keys_of : TableShape → Keys
keys_of shape = map (λ i. i.key) shape.indices

abbrev pub spec_of : IndexSpec → Spec
spec_of i = record { kind = i.kind; unique = i.unique }

abbrev pub specs_of : TableShape → List Spec
specs_of shape = map spec_of shape.indices

-- two declarations of one table: their indices alone may differ
pub record IsOfSameTable (a b : TableShape) : Type 0 where
  pub name : a.name ≡ b.name
  pub max : a.max ≡ b.max
  pub columns : a.columns ≡ b.columns
  pub place : a.place ≡ b.place
  pub tables : a.tables ≡ b.tables

-- the keys and kinds of a container's indices are the declared ones
pub record HasIndices (shape : TableShape) (records : State Keys Cells) : Type 0 where
  pub keys : records.keys ≡ keys_of shape
  pub specs : records.specs ≡ specs_of shape

-- a table without records
abbrev pub new_table : TableShape → TableState
new_table shape = record { shape = shape; records = empty (keys_of shape) (specs_of shape) shape.max 0 }

-- the name of the index of a number
abbrev pub index_name : TableState → ℕ → List ℕ
index_name t index = option_map_or (λ i. i.name) (slice_get t.shape.indices index) []

-- the name of the last one
abbrev pub last_index_name : TableState → List ℕ
last_index_name t = index_name t (length t.shape.indices - 1)
