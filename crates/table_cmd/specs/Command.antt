-- What a command says of its table, and of the cells that it changes.
use Rattle.std.specs.Prelude.{ℕ, List, [], Bool, true, false}
use Rattle.table_cmd.specs.declared.command.Changes.{Changes}
use Rattle.table_cmd.specs.declared.command.Changes.TheVariants as changes
use Rattle.table_cmd.specs.declared.command.Command.{Command}
use Rattle.table_cmd.specs.declared.command.Command.TheVariants as commands
use Rattle.table_cmd.specs.declared.command.Field.{Field}

-- the table that a command names
abbrev pub table_in : Command → List ℕ
table_in (commands.Insert table row position) = table
table_in (commands.Replace table handle row) = table
table_in (commands.Modify table handle changes rollback) = table
table_in (commands.ModifyKey table index handle key rollback) = table
table_in (commands.Erase table handle index) = table
table_in (commands.EraseKey table index key) = table
table_in (commands.Clear table) = table
table_in (commands.Move table index handle place) = table
table_in (commands.Rearrange table index handles) = table
table_in (commands.Reverse table index) = table
table_in (commands.Sort table index by) = table
table_in (commands.AddIndex table index kind unique key) = table
table_in (commands.DropIndex table index) = table
table_in (commands.Get table handle) = table
table_in (commands.Size table) = table
table_in (commands.Find table index key) = table
table_in (commands.Count table index key) = table
table_in (commands.Lower table index key) = table
table_in (commands.Upper table index key) = table
table_in (commands.Range table index low high) = table
table_in (commands.Nth table index place) = table
table_in (commands.Rank table index position) = table
table_in (commands.Place table index handle) = table
table_in (commands.FindRank table index key) = table
table_in (commands.LowerRank table index key) = table
table_in (commands.UpperRank table index key) = table
table_in (commands.Next table index position) = table
table_in (commands.Prev table index position) = table
table_in (commands.List table index) = table

-- the cells that become a value
abbrev pub set_in : Changes → List Field
set_in (changes.Set set) = set
set_in (changes.Add add) = []
set_in (changes.Both set add) = set

-- the cells to which a value is added
abbrev pub added_in : Changes → List Field
added_in (changes.Set set) = []
added_in (changes.Add add) = add
added_in (changes.Both set add) = add

-- a change of one record
abbrev pub is_row_change : Command → Bool
is_row_change (commands.Insert table row position) = true
is_row_change (commands.Replace table handle row) = true
is_row_change (commands.Modify table handle changes rollback) = true
is_row_change (commands.ModifyKey table index handle key rollback) = true
is_row_change (commands.Erase table handle index) = true
is_row_change other = false

-- a change of a sequence, or of the whole table
abbrev pub is_sequence_change : Command → Bool
is_sequence_change (commands.Clear table) = true
is_sequence_change (commands.Move table index handle place) = true
is_sequence_change (commands.Rearrange table index handles) = true
is_sequence_change (commands.Reverse table index) = true
is_sequence_change (commands.Sort table index by) = true
is_sequence_change other = false

-- an index more, or one less
abbrev pub is_index_change : Command → Bool
is_index_change (commands.AddIndex table index kind unique key) = true
is_index_change (commands.DropIndex table index) = true
is_index_change other = false

-- a read, or a change, of the records of a key
abbrev pub is_keyed : Command → Bool
is_keyed (commands.EraseKey table index key) = true
is_keyed (commands.Find table index key) = true
is_keyed (commands.Count table index key) = true
is_keyed (commands.Lower table index key) = true
is_keyed (commands.Upper table index key) = true
is_keyed (commands.FindRank table index key) = true
is_keyed (commands.LowerRank table index key) = true
is_keyed (commands.UpperRank table index key) = true
is_keyed other = false

-- a read that has no key
abbrev pub is_unkeyed_read : Command → Bool
is_unkeyed_read (commands.Get table handle) = true
is_unkeyed_read (commands.Size table) = true
is_unkeyed_read (commands.Range table index low high) = true
is_unkeyed_read (commands.Nth table index place) = true
is_unkeyed_read (commands.Rank table index position) = true
is_unkeyed_read (commands.Place table index handle) = true
is_unkeyed_read (commands.Next table index position) = true
is_unkeyed_read (commands.Prev table index position) = true
is_unkeyed_read (commands.List table index) = true
is_unkeyed_read other = false
