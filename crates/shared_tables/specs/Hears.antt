-- A call of a table that is found under its lock.
use Rattle.std.specs.Prelude.{◌≡◌, ◌⊎◌, ℕ, ◌++◌, List, length, true, false, Option, Some, None, position, slice_get, bytes_eq}
use Rattle.table_cmd.specs.Command.{table_in}
use Rattle.table_cmd.specs.declared.command.Command.{Command}
use Rattle.table_reply.specs.Answer.{answer_text, fault}
use Rattle.table_reply.specs.declared.fault.Fault.TheVariants as faults
use Rattle.table_schema.specs.Shape.{TableShape}
use Rattle.table_step.specs.Step.{memory_line, step_of}
use Rattle.shared_tables.specs.Journal.{IsLegal, line_of, replay}
use Rattle.shared_tables.specs.Pass.{PassData}
use Rattle.shared_tables.specs.Call.{CellData, is_known, pass_after, regress_of, track_at}
use Rattle.shared_tables.specs.declared.fault.CallFault.{CallFault}
use Rattle.shared_tables.specs.declared.fault.CallFault.TheVariants.{Stranger, Regressed}

-- what a clause sees of tables behind locks
pub record SharedData : Type 0 where
  pub schema : List TableShape
  pub workers : ℕ

-- the place of the first table of a name
abbrev pub table_at : List TableShape → List ℕ → Option ℕ
table_at schema name = position (λ shape. bytes_eq shape.name name) schema

-- the line where no table has the name
abbrev pub table_line : List ℕ
table_line = answer_text (fault faults.Table)

abbrev pub knows : SharedData → PassData → Type 0
knows shared pass = is_known (length shared.schema) shared.workers pass ≡ true

-- The table at this place, as a legal journal leaves it.
pub record IsFound (shared : SharedData) (place : ℕ) (cell : CellData) : Type 0 where
  pub shape : slice_get shared.schema place ≡ Some cell.shape
  pub placed : cell.shape.place ≡ place
  pub workers : cell.workers ≡ shared.workers
  pub legal : IsLegal cell.shape cell.journal

-- The table's answer in the replay of some legal journal, which the pass fits: it is not shorter than what the pass saw,
-- and the session's last entry stands where the pass's does.
pub record HearsTable (shared : SharedData) (place : ℕ) (pass : PassData) (command : Command) (text : List ℕ) (pass' : PassData) : Type 0 where
  pub cell : CellData
  pub found : IsFound shared place cell
  pub fits : regress_of cell.journal pass.session (track_at place pass) ≡ None
  pub line : text ≡ line_of (step_of (replay cell.shape cell.journal) command)
  pub known : pass' ≡ pass_after cell command pass

-- where a table has the name, and where none has
abbrev pub HearsAt : Option ℕ → SharedData → PassData → Command → List ℕ → PassData → Type 0
HearsAt (Some place) shared pass command text pass' = HearsTable shared place pass command text pass'
HearsAt None shared pass command text pass' = (text ≡ table_line) × (pass' ≡ pass)

abbrev pub HearsLine : SharedData → PassData → Command → List ℕ → PassData → Type 0
HearsLine shared pass command text pass' =
    ((text ≡ memory_line) × (pass' ≡ pass)) ⊎ HearsAt (table_at shared.schema (table_in command)) shared pass command text pass'

-- the same, appended to what was told before
abbrev pub Hears : SharedData → PassData → Command → List ℕ → List ℕ → PassData → Type 0
Hears shared pass command told_before told pass' =
    knows shared pass × ((text : List ℕ) × (told ≡ told_before ++ text) × HearsLine shared pass command text pass')

-- the pass does not fit some legal journal of the table that the command names
pub record IsRegressed (shared : SharedData) (pass : PassData) (command : Command) (why : CallFault) : Type 0 where
  pub place : ℕ
  pub named : table_at shared.schema (table_in command) ≡ Some place
  pub cell : CellData
  pub found : IsFound shared place cell
  pub regress : regress_of cell.journal pass.session (track_at place pass) ≡ Some why

-- a stranger, or a pass that does not fit
abbrev pub Refuses : SharedData → PassData → Command → CallFault → Type 0
Refuses shared pass command Stranger = is_known (length shared.schema) shared.workers pass ≡ false
Refuses shared pass command (Regressed expected found) = knows shared pass × IsRegressed shared pass command (Regressed expected found)
