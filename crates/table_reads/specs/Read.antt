-- One read of a table.
use Rattle.table_cmd.specs.declared.command.Command.{Command}
use Rattle.table_cmd.specs.declared.command.Command.TheVariants as commands
use Rattle.table_reads.specs.declared.search.Search.TheVariants as searches
use Rattle.table_reads.specs.Positions.{position_step}
use Rattle.table_reads.specs.Ranges.{range_step}
use Rattle.table_reads.specs.Reads.{get_step, list_step, size_step}
use Rattle.table_reads.specs.Searches.{search_step}
use Rattle.table_terms.specs.Step.{Step}
use Rattle.table_terms.specs.Table.{TableState}

-- a read of the table that it names
abbrev pub read_step : TableState → Command → Step
read_step t (commands.Get table handle) = get_step t handle
read_step t (commands.Size table) = size_step t
read_step t (commands.Find table index key) = search_step t searches.Find index key
read_step t (commands.Count table index key) = search_step t searches.Count index key
read_step t (commands.Lower table index key) = search_step t searches.Lower index key
read_step t (commands.Upper table index key) = search_step t searches.Upper index key
read_step t (commands.Range table index low high) = range_step t index low high
read_step t (commands.FindRank table index key) = search_step t searches.FindRank index key
read_step t (commands.LowerRank table index key) = search_step t searches.LowerRank index key
read_step t (commands.UpperRank table index key) = search_step t searches.UpperRank index key
read_step t (commands.List table index) = list_step t index
read_step t other = position_step t other
