-- What a line asks for: the command, or the fault.
use Rattle.std.specs.Prelude.{ℕ, List, if◌then◌else◌, Option, Some, None, option_and_then, Result, Err, codes}
use Rattle.std.specs.Str.{is_utf8}
use Rattle.serde_json.specs.Data.{Data, object, Members}
use Rattle.serde_json.specs.Find.{get, as_object}
use Rattle.serde_json.specs.Read.{read}
use Rattle.table_cmd.specs.declared.command.Value.{Value}
use Rattle.table_cmd.specs.declared.command.Command.{Command}
use Rattle.table_cmd.specs.declared.command.Command.TheVariants as commands
use Rattle.command_lines.specs.declared.op.Op.{Op}
use Rattle.command_lines.specs.declared.op.Op.TheVariants as ops
use Rattle.command_lines.specs.declared.op.TableOp.{TableOp}
use Rattle.command_lines.specs.declared.op.TableOp.TheVariants.{Clear, Size}
use Rattle.command_lines.specs.declared.op.IndexOp.{IndexOp}
use Rattle.command_lines.specs.declared.op.IndexOp.TheVariants.{Reverse, DropIndex, List as Listing}
use Rattle.command_lines.specs.declared.op.KeyOp.{KeyOp}
use Rattle.command_lines.specs.declared.op.KeyOp.TheVariants.{EraseKey, Find, Count, Lower, Upper, FindRank, LowerRank, UpperRank}
use Rattle.command_lines.specs.declared.op.PositionOp.{PositionOp}
use Rattle.command_lines.specs.declared.op.PositionOp.TheVariants.{Rank, Next, Prev}
use Rattle.table_cmd.specs.declared.command.HandleText.{HandleText}
use Rattle.command_lines.specs.declared.fault.CommandFault.{CommandFault}
use Rattle.command_lines.specs.declared.fault.CommandFault.TheVariants as faults
use Rattle.command_lines.specs.Op.{op_of, keys_of}
use Rattle.command_lines.specs.Parts.{◌>>=◌, has_only, text_at, key_at, row_at, handle_at, end_at, count_at, handles_at, names_at, names_if_given, kind_at, text_if_given, position_at, changes_at, truth_at, bound_at, or_fault}

-- an insertion: a table and a row, and perhaps where it goes at an index
unfoldable pub insert_of : Data → Option Command
insert_of d = do
  table ← text_at (codes "t") d
  row ← row_at d
  position ← position_at (get (codes "i") d) (get (codes "p") d)
  Some (commands.Insert table row position)

-- a replacement: a table, a handle and a row
unfoldable pub replace_of : Data → Option Command
replace_of d = do
  table ← text_at (codes "t") d
  handle ← handle_at d
  row ← row_at d
  Some (commands.Replace table handle row)

-- a modification: a table, a handle and changes, and perhaps whether they are undone at a ban
unfoldable pub modify_of : Data → Option Command
modify_of d = do
  table ← text_at (codes "t") d
  handle ← handle_at d
  changes ← changes_at (get (codes "set") d) (get (codes "add") d)
  rollback ← truth_at (codes "rollback") d
  Some (commands.Modify table handle changes rollback)

-- a modification of a key: a table, an index, a handle and a key, and perhaps whether it is undone at a ban
unfoldable pub modify_key_of : Data → Option Command
modify_key_of d = do
  table ← text_at (codes "t") d
  index ← text_at (codes "i") d
  handle ← handle_at d
  key ← key_at d
  rollback ← truth_at (codes "rollback") d
  Some (commands.ModifyKey table index handle key rollback)

-- an erasure: a table and a handle, and perhaps an index
unfoldable pub erase_of : Data → Option Command
erase_of d = do
  table ← text_at (codes "t") d
  handle ← handle_at d
  index ← text_if_given (get (codes "i") d)
  Some (commands.Erase table handle index)

-- a move: a table, an index, a handle and a place
unfoldable pub move_of : Data → Option Command
move_of d = do
  table ← text_at (codes "t") d
  index ← text_at (codes "i") d
  handle ← handle_at d
  place ← count_at (codes "p") d
  Some (commands.Move table index handle place)

-- a rearrangement: a table, an index and handles
unfoldable pub rearrange_of : Data → Option Command
rearrange_of d = do
  table ← text_at (codes "t") d
  index ← text_at (codes "i") d
  handles ← handles_at d
  Some (commands.Rearrange table index handles)

-- a sorting: a table, an index and names of columns
unfoldable pub sort_of : Data → Option Command
sort_of d = do
  table ← text_at (codes "t") d
  index ← text_at (codes "i") d
  by ← names_at d
  Some (commands.Sort table index by)

-- a new index: a table, the index, its kind, perhaps whether it is unique, and perhaps the names of its key's columns
unfoldable pub add_index_of : Data → Option Command
add_index_of d = do
  table ← text_at (codes "t") d
  index ← text_at (codes "i") d
  kind ← kind_at d
  unique ← truth_at (codes "unique") d
  key ← names_if_given (get (codes "key") d)
  Some (commands.AddIndex table index kind unique key)

-- a look-up by handle: a table and a handle
unfoldable pub get_of : Data → Option Command
get_of d = do
  table ← text_at (codes "t") d
  handle ← handle_at d
  Some (commands.Get table handle)

-- a look-up by place: a table, an index and a place
unfoldable pub nth_of : Data → Option Command
nth_of d = do
  table ← text_at (codes "t") d
  index ← text_at (codes "i") d
  place ← count_at (codes "n") d
  Some (commands.Nth table index place)

-- the place of a record: a table, an index and a handle
unfoldable pub place_of : Data → Option Command
place_of d = do
  table ← text_at (codes "t") d
  index ← text_at (codes "i") d
  handle ← handle_at d
  Some (commands.Place table index handle)

-- the records between bounds: a table and an index, and perhaps a low and a high bound
unfoldable pub range_of : Data → Option Command
range_of d = do
  table ← text_at (codes "t") d
  index ← text_at (codes "i") d
  low ← bound_at (get (codes "ge") d) (get (codes "gt") d)
  high ← bound_at (get (codes "le") d) (get (codes "lt") d)
  Some (commands.Range table index low high)

-- a command on a table as a whole
unfoldable pub on_table : TableOp → List ℕ → Command
on_table Clear table = commands.Clear table
on_table Size table = commands.Size table

unfoldable pub table_command : TableOp → Data → Option Command
table_command op d = do
  table ← text_at (codes "t") d
  Some (on_table op table)

-- a command on an index as a whole
unfoldable pub on_index : IndexOp → List ℕ → List ℕ → Command
on_index Reverse table index = commands.Reverse table index
on_index DropIndex table index = commands.DropIndex table index
on_index Listing table index = commands.List table index

unfoldable pub index_command : IndexOp → Data → Option Command
index_command op d = do
  table ← text_at (codes "t") d
  index ← text_at (codes "i") d
  Some (on_index op table index)

-- a command at a key of an index
unfoldable pub on_key : KeyOp → List ℕ → List ℕ → List Value → Command
on_key EraseKey table index key = commands.EraseKey table index key
on_key Find table index key = commands.Find table index key
on_key Count table index key = commands.Count table index key
on_key Lower table index key = commands.Lower table index key
on_key Upper table index key = commands.Upper table index key
on_key FindRank table index key = commands.FindRank table index key
on_key LowerRank table index key = commands.LowerRank table index key
on_key UpperRank table index key = commands.UpperRank table index key

unfoldable pub key_command : KeyOp → Data → Option Command
key_command op d = do
  table ← text_at (codes "t") d
  index ← text_at (codes "i") d
  key ← key_at d
  Some (on_key op table index key)

-- a command at a position of an index
unfoldable pub on_position : PositionOp → List ℕ → List ℕ → Option HandleText → Command
on_position Rank table index position = commands.Rank table index position
on_position Next table index position = commands.Next table index position
on_position Prev table index position = commands.Prev table index position

unfoldable pub position_command : PositionOp → Data → Option Command
position_command op d = do
  table ← text_at (codes "t") d
  index ← text_at (codes "i") d
  position ← end_at d
  Some (on_position op table index position)

-- the command of an operation, by the keys of its object
abbrev pub shaped : Op → Data → Option Command
shaped ops.Insert d = insert_of d
shaped ops.Replace d = replace_of d
shaped ops.Modify d = modify_of d
shaped ops.ModifyKey d = modify_key_of d
shaped ops.Erase d = erase_of d
shaped ops.Move d = move_of d
shaped ops.Rearrange d = rearrange_of d
shaped ops.Sort d = sort_of d
shaped ops.AddIndex d = add_index_of d
shaped ops.Get d = get_of d
shaped ops.Nth d = nth_of d
shaped ops.Place d = place_of d
shaped ops.Range d = range_of d
shaped (ops.OnTable op) d = table_command op d
shaped (ops.OnIndex op) d = index_command op d
shaped (ops.OnKey op) d = key_command op d
shaped (ops.OnPosition op) d = position_command op d

-- the command of an operation, whose object has no other keys than its own
unfoldable pub command_for : Op → Members → Option Command
command_for op ms = if has_only (keys_of op) ms then shaped op (object ms) else None

-- what a JSON value asks for, where it is a command
unfoldable pub command_of : Data → Option Command
command_of d = do
  ms ← as_object d
  op ← option_and_then op_of (text_at (codes "op") d)
  command_for op ms

-- what a text asks for, by the JSON value that was read of it
abbrev pub read_data : Option Data → Result Command CommandFault
read_data None = Err faults.Json
read_data (Some d) = or_fault (command_of d)

-- what a line asks for: one JSON value in UTF-8 that is a command
unfoldable pub meaning : List ℕ → Result Command CommandFault
meaning line = if is_utf8 line then read_data (read line) else Err faults.Json
