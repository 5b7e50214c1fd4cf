-- The text of a table's state: lines, each of them the canonical text of a command.
use Rattle.std.specs.Prelude.{ℕ, List, [], ◌∷◌, ◌++◌, codes, false, if◌then◌else◌, length, map, option_map, slice_get}
use Rattle.std.specs.List.{flat_map, range_with_len}
use Rattle.std.specs.Option.{option_map_or}
use Rattle.container_model.specs.declared.handle.Entry.{Entry}
use Rattle.container_model.specs.declared.handle.Handle.{Handle}
use Rattle.container_model.specs.State.{list_at}
use Rattle.key_extract.specs.declared.key.Part.{Part}
use Rattle.table_cmd.specs.declared.command.Command.{Command}
use Rattle.table_cmd.specs.declared.command.Command.TheVariants as commands
use Rattle.table_cmd.specs.declared.command.HandleText.TheVariants as texts
use Rattle.table_cmd.specs.declared.command.Value.TheVariants as values
use Rattle.table_log.specs.Logged.{log_line}
use Rattle.table_schema.specs.declared.column.Column.{Column}
use Rattle.table_schema.specs.declared.column.IndexSpec.{IndexSpec}
use Rattle.table_schema.specs.Shape.{TableShape}
use Rattle.table_terms.specs.Table.{Cells, TableState}

-- a number under a name
abbrev pub count_command : TableShape → List ℕ → ℕ → Command
count_command shape name count = commands.Nth shape.name name count

-- the names of the columns, in their order
abbrev pub columns_command : TableShape → Command
columns_command shape = commands.Sort shape.name (codes "columns") (map (λ c. c.name) shape.columns)

-- a part of a key: the name of its column, with a `-` before it where it falls
abbrev pub part_text : List Column → Part → List ℕ
part_text columns part =
    (if part.falling then codes "-" else []) ++ option_map_or (λ c. c.name) (slice_get columns part.column) []

-- an index that the table has now
abbrev pub index_command : TableShape → IndexSpec → Command
index_command shape index =
    commands.AddIndex shape.name index.name index.kind index.unique (option_map (map (part_text shape.columns)) index.key)

-- a record: its handle, and its cells in the order of the columns
abbrev pub record_command : TableShape → Entry Cells → Command
record_command shape entry = commands.ModifyKey shape.name (codes "columns") (texts.Handle entry.handle) (map values.Cell entry.row) false

-- the order of an index: the handles of all records
abbrev pub order_command : TableShape → List ℕ → List Handle → Command
order_command shape index handles = commands.Rearrange shape.name index (map texts.Handle handles)

-- ---- the lines

-- the line of a command: its canonical text, and a newline
unfoldable pub line_of : Command → List ℕ
line_of command = log_line command

-- the lines of commands, one after another
abbrev pub lines_text : List Command → List ℕ
lines_text = flat_map line_of

-- the numbers of a table, and its columns
abbrev pub head_commands : TableShape → ℕ → ℕ → ℕ → List Command
head_commands shape writes indices records =
    count_command shape (codes "writes") writes
    ∷ count_command shape (codes "indices") indices
    ∷ count_command shape (codes "records") records
    ∷ columns_command shape
    ∷ []

-- the order of the index of a number
abbrev pub order_at : TableShape → List (List Handle) → ℕ → Command
order_at shape lists index =
    order_command shape (option_map_or (λ i. i.name) (slice_get shape.indices index) []) (list_at lists index)

-- the orders of its indices
abbrev pub order_commands : TableShape → List (List Handle) → List Command
order_commands shape lists = map (order_at shape lists) (range_with_len 0 (length shape.indices))

-- the text of a table's state
abbrev pub state_text : TableState → List ℕ
state_text t =
    lines_text (head_commands t.shape t.records.writes (length t.shape.indices) (length t.records.entries))
    ++ (lines_text (map (index_command t.shape) t.shape.indices)
    ++ (lines_text (map (record_command t.shape) t.records.entries)
    ++ lines_text (order_commands t.shape t.records.lists)))
