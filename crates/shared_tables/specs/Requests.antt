-- What lines ask, and what a session hears of it.
use Rattle.std.specs.Prelude.{◌≡◌, ◌⊎◌, ℕ, ◌==◌, List, [], ◌∷◌, ◌++◌, length, slice_get, true, false, Option, Some, None, Ok, Err}
use Rattle.std.specs.Bool.{MatchBool}
use Rattle.std.specs.Option.{option_to_list}
use Rattle.command_lines.specs.Meaning.{meaning}
use Rattle.command_lines.specs.declared.fault.CommandFault.{CommandFault}
use Rattle.table_engine.specs.Lines.{Unfinished, short, long, add, is_blank}
use Rattle.table_reply.specs.Answer.{answer_text, fault}
use Rattle.table_reply.specs.declared.fault.Fault.TheVariants as faults
use Rattle.shared_tables.specs.Call.{CellData}
use Rattle.shared_tables.specs.Hears.{HearsLine, Refuses, SharedData, knows}
use Rattle.shared_tables.specs.Pass.{PassData}
use Rattle.shared_tables.specs.Serving.{unread}
use Rattle.shared_tables.specs.declared.fault.CallFault.{CallFault}
use Rattle.shared_tables.specs.declared.request.Request.{Request}
use Rattle.shared_tables.specs.declared.request.Request.TheVariants as requests

-- ---- what lines ask

-- a line that is neither blank nor too long: its command, or its fault, or that memory was refused
abbrev pub AsksText : List ℕ → Request → Type 0
AsksText line (requests.Command command) = meaning line ≡ Ok command
AsksText line (requests.Fault why) = (why ≡ faults.Memory) ⊎ ((what : CommandFault) × (meaning line ≡ Err what) × (why ≡ unread what))

-- any line: a blank one asks nothing
abbrev pub Asks : Unfinished → Option Request → Type 0
Asks long asked = asked ≡ Some (requests.Fault faults.Line)
Asks (short line) None = is_blank line ≡ true
Asks (short line) (Some request) = (is_blank line ≡ false) × AsksText line request

-- Bytes are taken one after another, from the line so far to the line so far behind them. A newline ends a line, which is read.
abbrev pub Reads : Unfinished → List ℕ → List Request → Unfinished → Type 0
Reads line [] asked next = (asked ≡ []) × (next ≡ line)
Reads line (b ∷ bs) asked next = MatchBool (b == 10)
    ((first : Option Request) × (rest : List Request) × (asked ≡ option_to_list first ++ rest) × Asks line first × Reads (short []) bs rest next)
    (Reads (add b line) bs asked next)

-- ---- what is heard of requests

abbrev pub HearsRequest : SharedData → PassData → Request → List ℕ → PassData → Type 0
HearsRequest shared pass (requests.Command command) text pass' = knows shared pass × HearsLine shared pass command text pass'
HearsRequest shared pass (requests.Fault why) text pass' = (text ≡ answer_text (fault why)) × (pass' ≡ pass)

abbrev pub RefusesRequest : SharedData → PassData → Request → CallFault → Type 0
RefusesRequest shared pass (requests.Command command) why = Refuses shared pass command why
RefusesRequest shared pass (requests.Fault what) why = ⊥

-- They are answered one after another, each from the pass that the one before it left.
abbrev pub HearsRequests : SharedData → PassData → List Request → List ℕ → PassData → Type 0
HearsRequests shared pass [] text pass' = (text ≡ []) × (pass' ≡ pass)
HearsRequests shared pass (request ∷ asked) text pass' = (mid : PassData) × (first : List ℕ) × (rest : List ℕ) × (text ≡ first ++ rest)
    × HearsRequest shared pass request first mid × HearsRequests shared mid asked rest pass'

-- The first of them are answered, and these are left.
pub record HearsSome (shared : SharedData) (pass : PassData) (asked left : List Request) (text : List ℕ) (pass' : PassData) : Type 0 where
  pub done : List Request
  pub parts : done ++ left ≡ asked
  pub heard : HearsRequests shared pass done text pass'

-- The first of them are answered, and the call of the next one is refused.
pub record HearsUntil (shared : SharedData) (pass : PassData) (asked : List Request) (text : List ℕ) (pass' : PassData) (why : CallFault) : Type 0 where
  pub next : Request
  pub later : List Request
  pub some : HearsSome shared pass asked (next ∷ later) text pass'
  pub refused : RefusesRequest shared pass' next why

-- ---- a table under its lock

-- the table at this place of the schema
pub record IsEntered (shared : SharedData) (place : ℕ) (cell : CellData) : Type 0 where
  pub shape : slice_get shared.schema place ≡ Some cell.shape
  pub placed : cell.shape.place ≡ place
  pub tables : cell.shape.tables ≡ length shared.schema
  pub workers : cell.workers ≡ shared.workers
