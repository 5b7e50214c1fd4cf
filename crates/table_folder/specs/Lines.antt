-- How many lines stand in some bytes.
use Rattle.std.specs.Prelude.{ℕ, ◌==◌, cond, true, false, List}
use Rattle.std.specs.List.{fold}
use Rattle.table_engine.specs.Devices.{raised}
use Rattle.table_folder.specs.declared.lines.Lines.{Lines}

-- no byte came yet
abbrev pub no_lines : Lines
no_lines = record { count = 0; is_torn = false }

-- a byte more: a newline ends a line, and any other byte is one of a line that is not ended
abbrev pub with_byte : Lines → ℕ → Lines
with_byte lines byte = cond (byte == 10) (record { count = raised lines.count; is_torn = false }) (record { count = lines.count; is_torn = true })

-- how many newlines these bytes have, and whether bytes stand behind the last of them
abbrev pub lines_of : List ℕ → Lines
lines_of bytes = fold with_byte no_lines bytes
