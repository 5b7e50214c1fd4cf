-- One index of a container.
use Rattle.std.specs.Prelude.{◌≡◌, ℕ, ◌<◌, List, length}
use Rattle.std.specs.declared.cmp.Ordering.{Ordering}
use Rattle.key_extract.specs.declared.cell.Cell.{Cell}
use Rattle.key_extract.specs.declared.key.Part.{Part}
use Rattle.container_model.specs.declared.handle.Handle.{Handle}
use Rattle.container_model.specs.State.{State, list_at}
use Rattle.container_model.specs.Find.{probe_side}
use Rattle.container_model.specs.declared.handle.Kind.{Kind}
use Rattle.container_model.specs.declared.handle.Spec.{Spec}
use Rattle.field_keys.specs.declared.index.Index.{Index}
use Rattle.field_keys.specs.Indices.{declared_specs}
use Rattle.field_keys.specs.Sought.{Sought}
use Rattle.indexed.specs.Kinds.{kind_of}
use Rattle.indexed.specs.Orders.{to_search}

-- a container, and the number of one of its indices
pub record Viewed (R : Type 0) : Type 0 where
  pub all : State (List (List Part)) R
  pub number : ℕ

-- the records of the index, in its order
abbrev pub members : {R : Type 0} → Viewed R → List Handle
members v = list_at v.all.lists v.number

-- how the record of a handle stands to what a search seeks
abbrev pub side : {R : Type 0} → (R → List Cell) → Viewed R → Sought → Handle → Ordering
side row_of v search h = probe_side (to_search row_of) v.all v.number search h

-- a container has the declared indices
pub record IsDeclared {R : Type 0} (indices : List Spec) (given : List Index) (all : State (List (List Part)) R) : Type 0 where
  pub declared : all.specs ≡ indices
  pub given_is : declared_specs given ≡ indices

-- the container has the declared indices, and the number is that of one of them, of the kind
pub record IsView {R : Type 0} (indices : List Spec) (kind : Kind) (v : Viewed R) : Type 0 where
  pub declared : v.all.specs ≡ indices
  pub within : v.number < length indices
  pub kind_is : kind_of indices v.number ≡ kind
