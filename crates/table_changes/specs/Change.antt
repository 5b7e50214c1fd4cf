-- One change of a table.
use Rattle.std.specs.Prelude.{Bool, true, false}
use Rattle.table_cmd.specs.Command.{added_in, set_in}
use Rattle.table_cmd.specs.declared.command.Command.{Command}
use Rattle.table_cmd.specs.declared.command.Command.TheVariants as commands
use Rattle.table_changes.specs.Changes.{clear_step, erase_key_step, erase_step, insert_step, replace_step}
use Rattle.table_changes.specs.Indices.{add_index_step, drop_index_step}
use Rattle.table_changes.specs.Modify.{modify_key_step, modify_step}
use Rattle.table_changes.specs.Moves.{move_step, rearrange_step, reverse_step, sort_step}
use Rattle.table_reply.specs.declared.fault.Fault.TheVariants as faults
use Rattle.table_terms.specs.Step.{Step, refused}
use Rattle.table_terms.specs.Table.{TableState}

-- whether a command changes a table, where it is not refused
abbrev pub is_change : Command → Bool
is_change (commands.Insert table row position) = true
is_change (commands.Replace table handle row) = true
is_change (commands.Modify table handle changes rollback) = true
is_change (commands.ModifyKey table index handle key rollback) = true
is_change (commands.Erase table handle index) = true
is_change (commands.EraseKey table index key) = true
is_change (commands.Clear table) = true
is_change (commands.Move table index handle place) = true
is_change (commands.Rearrange table index handles) = true
is_change (commands.Sort table index by) = true
is_change (commands.Reverse table index) = true
is_change (commands.AddIndex table index kind unique key) = true
is_change (commands.DropIndex table index) = true
is_change read = false

-- a change of the table that it names; a read is none
abbrev pub change_step : TableState → Command → Step
change_step t (commands.Insert table row position) = insert_step t row position
change_step t (commands.Replace table handle row) = replace_step t handle row
change_step t (commands.Modify table handle changes rollback) = modify_step t handle (set_in changes) (added_in changes) rollback
change_step t (commands.ModifyKey table index handle key rollback) = modify_key_step t index handle key rollback
change_step t (commands.Erase table handle index) = erase_step t handle index
change_step t (commands.EraseKey table index key) = erase_key_step t index key
change_step t (commands.Clear table) = clear_step t
change_step t (commands.Move table index handle place) = move_step t index handle place
change_step t (commands.Rearrange table index handles) = rearrange_step t index handles
change_step t (commands.Sort table index by) = sort_step t index by
change_step t (commands.Reverse table index) = reverse_step t index
change_step t (commands.AddIndex table index kind unique key) = add_index_step t index kind unique key
change_step t (commands.DropIndex table index) = drop_index_step t index
change_step t read = refused t faults.Command
