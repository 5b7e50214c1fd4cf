-- What the lines of a state have to say, where they can be read.
use Rattle.std.specs.Prelude.{◌≡◌, ℕ, ◌<◌, ◌==◌, if◌then◌else◌, List, length, map, Option, Some, None, option_map}
use Rattle.std.specs.List.{AllByRecursion, zip}
use Rattle.command_lines.specs.Fits.{CommandFits}
use Rattle.container_model.specs.declared.handle.Entry.{Entry}
use Rattle.container_model.specs.declared.handle.Handle.{Handle}
use Rattle.table_cmd.specs.declared.command.Command.{Command}
use Rattle.table_cmd.specs.declared.command.Command.TheVariants as commands
use Rattle.table_cmd.specs.declared.command.HandleText.{HandleText}
use Rattle.table_cmd.specs.declared.command.HandleText.TheVariants as texts
use Rattle.table_cmd.specs.declared.command.Value.{Value}
use Rattle.table_schema.specs.declared.column.Column.{Column}
use Rattle.table_schema.specs.declared.column.IndexSpec.{IndexSpec}
use Rattle.table_schema.specs.Defined.{defined}
use Rattle.table_schema.specs.Draft.{IndexDraft, all_of}
use Rattle.table_schema.specs.Shape.{TableShape}
use Rattle.table_schema.specs.Valid.{IsValidTable}
use Rattle.table_state.specs.Standing.{RowFits}
use Rattle.table_state.specs.State.{index_command, order_at, part_text, record_command}
use Rattle.table_terms.specs.Table.{Cells}
use Rattle.table_terms.specs.Values.{cell_for}

-- the cells that values are in the columns, where there is one for each
unfoldable pub cells_from : List Column → List Value → Option Cells
cells_from columns values =
    if length values == length columns then all_of (map (λ p. cell_for p.0 p.1) (zip columns values)) else None

-- the handle that a text spells
abbrev pub handle_in : HandleText → Option Handle
handle_in (texts.Handle h) = Some h
handle_in texts.Bad = None

-- the handles that texts spell, where each spells one
abbrev pub handles_in : List HandleText → Option (List Handle)
handles_in hs = all_of (map handle_in hs)

-- the draft of an index, as its line has it
abbrev pub draft_of : List Column → IndexSpec → IndexDraft
draft_of columns index = record { name = index.name; kind = index.kind; unique = index.unique; key = option_map (map (part_text columns)) index.key }

-- ---- what a command that was read says

-- the number under a name
abbrev pub count_in : Command → Option ℕ
count_in (commands.Nth table index count) = Some count
count_in _ = None

-- the index that it defines, which a table with these may have
abbrev pub index_in : List Column → List IndexSpec → Command → Option IndexSpec
index_in columns indices (commands.AddIndex table name kind unique key) =
    defined columns indices (record { name = name; kind = kind; unique = unique; key = key })
index_in columns indices _ = None

-- the record, where its values are cells of the columns
abbrev pub entry_in : List Column → Command → Option (Entry Cells)
entry_in columns (commands.ModifyKey table index (texts.Handle handle) key rollback) =
    option_map (λ row. record { handle = handle; row = row }) (cells_from columns key)
entry_in columns _ = None

-- the order of an index, where each of its texts spells a handle
abbrev pub order_in : Command → Option (List Handle)
order_in (commands.Rearrange table index handles) = handles_in handles
order_in _ = None

-- ---- what can be read

-- its line can be read, and defines it again behind these
pub record IndexFits (shape : TableShape) (indices : List IndexSpec) (index : IndexSpec) : Type 0 where
  pub line : CommandFits (index_command shape index)
  pub again : defined shape.columns indices (draft_of shape.columns index) ≡ Some index

-- so many indices are those of a table of the declaration
pub record IndicesFit (shape : TableShape) (many : ℕ) (indices : List IndexSpec) : Type 0 where
  pub count : length indices ≡ many
  pub valid : IsValidTable (record shape { indices = indices })

-- the line of a record can be read, and its cells are of the columns
pub record EntryFits (shape : TableShape) (entry : Entry Cells) : Type 0 where
  pub line : CommandFits (record_command shape entry)
  pub row : RowFits shape.columns entry.row

pub record EntriesFit (shape : TableShape) (many : ℕ) (entries : List (Entry Cells)) : Type 0 where
  pub count : length entries ≡ many
  pub each : AllByRecursion (EntryFits shape) entries

-- there is an order for each index, whose line can be read
pub record OrdersFit (shape : TableShape) (lists : List (List Handle)) : Type 0 where
  pub count : length lists ≡ length shape.indices
  pub each : (index : ℕ) → index < length shape.indices → CommandFits (order_at shape lists index)
