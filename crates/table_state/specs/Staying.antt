-- The tables that commands lead to can stand.
use Rattle.std.specs.Prelude.{ℕ, List, IfOk, IfSome}
use Rattle.std.specs.List.{AllByRecursion}
use Rattle.command_lines.specs.Fits.{CommandFits}
use Rattle.command_lines.specs.Meaning.{meaning}
use Rattle.table_cmd.specs.declared.command.Command.{Command}
use Rattle.table_log.specs.Log.{replayed, whole_lines}
use Rattle.table_schema.specs.Shape.{TableShape}
use Rattle.table_schema.specs.Valid.{IsValidTable}
use Rattle.table_state.specs.Standing.{CanStand}
use Rattle.table_step.specs.Step.{TableState, new_table, step_of}

-- the empty table of a valid declaration can stand
abbrev pub BeginsStanding : TableShape → Type 0
BeginsStanding shape = IsValidTable shape → CanStand (new_table shape)

-- what any command that a line can say leaves of a table that can stand can stand
abbrev pub StaysStanding : TableState → Type 0
StaysStanding t = CanStand t → (command : Command) → CommandFits command → CanStand (step_of t command).table

-- a line means a command that a line can say, as each one does that is read, or none
abbrev pub CanBeSaid : List ℕ → Type 0
CanBeSaid line = IfOk (meaning line) CommandFits

-- and so can what the lines of a log leave of it
abbrev pub LoadsStanding : TableState → Type 0
LoadsStanding start = CanStand start → (bytes : List ℕ) → AllByRecursion CanBeSaid (whole_lines bytes) → IfSome (replayed start bytes) CanStand
