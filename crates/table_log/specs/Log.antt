-- The log of a table: lines of accepted writes, and the table that they leave.
use Rattle.std.specs.Prelude.{◌≡◌, ℕ, ◌+◌, List, [], ◌∷◌, ◌++◌, length, Option, Some, None, option_and_then, Result, Ok, Err}
use Rattle.command_lines.specs.Meaning.{meaning}
use Rattle.command_lines.specs.declared.fault.CommandFault.{CommandFault}
use Rattle.table_cmd.specs.declared.command.Command.{Command}
use Rattle.table_engine.specs.Whole.{lines_of}
use Rattle.table_step.specs.Step.{TableState, step_of}
use Rattle.table_terms.specs.declared.outcome.Outcome.{Outcome}
use Rattle.table_terms.specs.declared.outcome.Outcome.TheVariants as outcomes

-- ---- the lines of bytes

abbrev pub all_but_last : {X : Type 0} → List X → List X
all_but_last [] = []
all_but_last (x ∷ []) = []
all_but_last (x ∷ y ∷ ys) = x ∷ all_but_last (y ∷ ys)

abbrev pub last_part : List (List ℕ) → List ℕ
last_part [] = []
last_part (x ∷ []) = x
last_part (x ∷ y ∷ ys) = last_part (y ∷ ys)

-- the lines that a newline ends
abbrev pub whole_lines : List ℕ → List (List ℕ)
whole_lines bytes = all_but_last (lines_of bytes)

-- what stands behind the last newline
abbrev pub begun : List ℕ → List ℕ
begun bytes = last_part (lines_of bytes)

-- ---- the table after lines

-- the table that is left where the outcome is an accepted write
abbrev pub if_write : Outcome → TableState → Option TableState
if_write outcomes.Write t = Some t
if_write outcomes.Read t = None
if_write outcomes.Refusal t = None
if_write outcomes.Memory t = None

-- the table after a command that is accepted as a write
abbrev pub after_command : TableState → Command → Option TableState
after_command t command = let step = step_of t command in if_write step.outcome step.table

abbrev pub after_meaning : TableState → Result Command CommandFault → Option TableState
after_meaning t (Ok command) = after_command t command
after_meaning t (Err why) = None

-- the table after a line that means such a command
abbrev pub after_line : TableState → List ℕ → Option TableState
after_line t line = after_meaning t (meaning line)

-- the table after lines that are accepted one after another
abbrev pub after_lines : TableState → List (List ℕ) → Option TableState
after_lines t [] = Some t
after_lines t (line ∷ lines) = option_and_then (λ next. after_lines next lines) (after_line t line)

-- the table of a log: its whole lines on the table that it begins with
abbrev pub replayed : TableState → List ℕ → Option TableState
replayed start bytes = after_lines start (whole_lines bytes)

-- ---- loading

-- The bytes are whole lines, and leave the table.
pub record IsLog (start : TableState) (bytes : List ℕ) (table : TableState) : Type 0 where
  pub whole : begun bytes ≡ []
  pub leaves : replayed start bytes ≡ Some table

-- Loading these bytes keeps the whole lines and what they leave, and cuts off what stands behind them.
pub record IsLoaded (start : TableState) (bytes kept : List ℕ) (table : TableState) : Type 0 where
  pub cuts : bytes ≡ kept ++ begun bytes
  pub lines : whole_lines kept ≡ whole_lines bytes
  pub log : IsLog start kept table

-- The whole line of this number, from 1, is the first that is no accepted write.
pub record IsRefused (start : TableState) (bytes : List ℕ) (number : ℕ) : Type 0 where
  pub before : List (List ℕ)
  pub line : List ℕ
  pub later : List (List ℕ)
  pub lines : whole_lines bytes ≡ before ++ line ∷ later
  pub place : number ≡ length before + 1
  pub table : TableState
  pub accepted : after_lines start before ≡ Some table
  pub refused : after_line table line ≡ None
