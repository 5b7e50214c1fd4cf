-- A table that was saved.
use Rattle.multi_index.specs.Restored.{saved_state}
use Rattle.multi_index.specs.declared.restore.Saved.{Saved}
use Rattle.table_schema.specs.Shape.{TableShape}
use Rattle.table_terms.specs.Table.{Cells, TableState, keys_of, specs_of}

-- what was saved of its records, under the indices of a declaration
abbrev pub restored_table : TableShape → Saved Cells → TableState
restored_table shape saved = record { shape = shape; records = saved_state 8 shape.max (keys_of shape) (specs_of shape) saved }
