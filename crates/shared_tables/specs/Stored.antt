-- What is kept of a call, wherever it stands.
use Rattle.std.specs.Prelude.{ℕ, List}
use Rattle.table_cmd.specs.declared.command.Command.{Command}
use Rattle.shared_tables.specs.declared.stored.Line.{Line}
use Rattle.shared_tables.specs.declared.stored.Line.TheVariants.{Short, Long}
use Rattle.shared_tables.specs.declared.stored.Asked.{Asked}
use Rattle.shared_tables.specs.declared.stored.Asked.TheVariants.{Own, Shared}

-- the bytes of an answer
abbrev pub line_bytes : Line → List ℕ
line_bytes (Short line) = line.items
line_bytes (Long line) = line.items

-- the command of a look
abbrev pub asked_command : Asked → Command
asked_command (Own command) = command
asked_command (Shared command) = command.value
