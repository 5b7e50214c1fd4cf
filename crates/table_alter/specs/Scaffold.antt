-- Records under the order of their insertion alone.
use Rattle.std.specs.Prelude.{◌≡◌, ℕ, false, List, [], length, None, bytes_eq}
use Rattle.container_model.specs.declared.handle.Entry.{Entry}
use Rattle.container_model.specs.declared.handle.Kind.TheVariants.{Sequenced}
use Rattle.table_alter.specs.declared.fault.Unalterable.{Unalterable}
use Rattle.table_alter.specs.declared.fault.Unalterable.TheVariants.{Memory, Unfit}
use Rattle.table_schema.specs.declared.column.Column.{Column}
use Rattle.table_schema.specs.declared.column.IndexSpec.{IndexSpec}
use Rattle.table_schema.specs.Defined.{IsNewIndex, with_only_index}
use Rattle.table_schema.specs.Shape.{TableShape}
use Rattle.table_terms.specs.Table.{Cells, TableState}

-- a sequence of another name than this one, which any table may have alone
pub record IsScaffold (name : List ℕ) (index : IndexSpec) : Type 0 where
  pub other : bytes_eq name index.name ≡ false
  pub kind : index.kind ≡ Sequenced
  pub no_key : index.key ≡ None
  pub new : (columns : List Column) → IsNewIndex columns [] index

-- these records are all of a table of the declaration, whose one index is such a sequence
pub record StandsAlone (after : TableShape) (name : List ℕ) (entries : List (Entry Cells)) (t : TableState) : Type 0 where
  pub index : IndexSpec
  pub scaffold : IsScaffold name index
  pub shape : t.shape ≡ with_only_index after index
  pub all : t.records.entries ≡ entries
  pub one : length t.records.lists ≡ 1
  pub specs : length t.records.specs ≡ 1
  pub most : t.records.most ≡ 8

-- memory was refused, or the records are those of no table
abbrev pub IsNoTable : Unalterable → Type 0
IsNoTable Memory = Unit {0}
IsNoTable Unfit = Unit {0}
IsNoTable _ = ⊥
