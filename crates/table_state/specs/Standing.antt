-- Tables that can stand.
use Rattle.std.specs.Prelude.{◌≡◌, ◌<◌, ◌≤◌, ◌^◌, true, List, length, is_some}
use Rattle.std.specs.List.{AllByRecursion, zip}
use Rattle.container_model.specs.State.{IsState}
use Rattle.command_lines.specs.Fits.{CellFits}
use Rattle.key_extract.specs.Keys.{key_at}
use Rattle.multi_index.specs.Restored.{AreWithin}
use Rattle.table_schema.specs.declared.column.Column.{Column}
use Rattle.table_schema.specs.Valid.{IsValidTable}
use Rattle.table_terms.specs.Table.{Cells, HasIndices, TableState, row_order}
use Rattle.table_terms.specs.Values.{can_hold}

-- a row has a cell for each column, which can hold it
pub record RowFits (columns : List Column) (row : Cells) : Type 0 where
  pub count : length row ≡ length columns
  pub held : AllByRecursion (λ p. can_hold p.0 p.1 ≡ true) (zip columns row)
  pub cells : AllByRecursion CellFits row

-- its declaration is valid, its records are those of a container under the declared indices, and their rows are of its columns
pub record CanStand (t : TableState) : Type 0 where
  pub declared : IsValidTable t.shape
  pub indices : HasIndices t.shape t.records
  pub most : t.records.most ≡ 8
  pub max : t.records.max ≡ t.shape.max
  pub kept : IsState (λ keys index. is_some (key_at keys index)) row_order t.records
  pub writes : t.records.writes < 2 ^ 64
  pub stamps : AllByRecursion (λ e. 1 ≤ e.handle.stamp) t.records.entries
  pub slots : AreWithin t.records.entries t.shape.max
  pub rows : AllByRecursion (λ e. RowFits t.shape.columns e.row) t.records.entries
