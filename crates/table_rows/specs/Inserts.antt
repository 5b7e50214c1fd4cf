-- Records as commands that insert them.
use Rattle.std.specs.Prelude.{ℕ, List, [], map, None, slice_get, unwrap_or}
use Rattle.std.specs.List.{flat_map}
use Rattle.container_model.specs.declared.handle.Handle.{Handle}
use Rattle.container_model.specs.State.{list_at, row_of}
use Rattle.key_extract.specs.declared.cell.Cell.TheVariants.{Null}
use Rattle.table_cmd.specs.declared.command.Command.{Command}
use Rattle.table_cmd.specs.declared.command.Command.TheVariants.{Insert}
use Rattle.table_cmd.specs.declared.command.Field.{Field}
use Rattle.table_cmd.specs.declared.command.Value.TheVariants.{Cell}
use Rattle.table_log.specs.Logged.{log_line}
use Rattle.table_records.specs.Headings.{headings_of}
use Rattle.table_reply.specs.declared.records.Heading.{Heading}
use Rattle.table_schema.specs.Shape.{TableShape}
use Rattle.table_terms.specs.Table.{Cells, TableState}

-- the cell of a row under its heading; one that is missing is null
abbrev pub field_under : Cells → Heading → Field
field_under cells heading = record { name = heading.name; value = Cell (unwrap_or (slice_get cells heading.place) Null) }

abbrev pub fields_under : List Heading → Cells → List Field
fields_under headings cells = map (field_under cells) headings

-- the command that inserts a record of these cells, with the names in ascending order
abbrev pub insert_of : TableShape → Cells → Command
insert_of shape cells = Insert shape.name (fields_under (headings_of shape.columns) cells) None

-- the cells of the record of a handle
abbrev pub cells_at : TableState → Handle → Cells
cells_at t handle = unwrap_or (row_of t.records.entries handle) []

-- the line of a record
abbrev pub insert_line_at : TableState → Handle → List ℕ
insert_line_at t handle = log_line (insert_of t.shape (cells_at t handle))

-- the lines of all records, in the order of an index
abbrev pub inserts_text : TableState → ℕ → List ℕ
inserts_text t index = flat_map (insert_line_at t) (list_at t.records.lists index)
