-- What the text of journals tells and leaves, run on empty tables.
use Rattle.std.specs.Prelude.{◌≡◌, ◌⊎◌, ◌<◌, ◌≤◌, ℕ, List, [], ◌∷◌, ◌++◌, length, map, All}
use Rattle.std.specs.List.{flat_map}
use Rattle.command_lines.specs.Fits.{CommandFits}
use Rattle.command_text.specs.Text.{command_text}
use Rattle.table_cmd.specs.declared.command.Command.{Command}
use Rattle.table_engine.specs.Lines.{max_line, short}
use Rattle.table_engine.specs.Run.{Machine, Run, bytes_of, end, line_of}
use Rattle.table_reply.specs.Buffer.{joined}
use Rattle.table_schema.specs.Shape.{TableShape}
use Rattle.table_step.specs.Step.{TableState, memory_line, new_table}
use Rattle.shared_tables.specs.Journal.{EntryData, replay}
use Rattle.shared_tables.specs.Pass.{PassData}
use Rattle.shared_tables.specs.Text.{entries_in, journals_text}

-- a command that a line can say, in a line that is not too long
pub record CanBeSaid (command : Command) : Type 0 where
  pub fits : CommandFits command
  pub short : length (command_text command) ≤ max_line

-- an entry whose command can be said
abbrev pub CanBeRead : EntryData → Type 0
CanBeRead e = CanBeSaid e.command

-- a pass whose writes can be said
abbrev pub KnowsReadable : PassData → Type 0
KnowsReadable pass = All (λ track. All (λ write. CanBeSaid write.command) track.writes) pass.tracks

-- the answers of entries, one after another
abbrev pub answers_in : List EntryData → List ℕ
answers_in entries = flat_map (λ e. e.answer) entries

-- each table as its journal leaves it
abbrev pub replays : List TableShape → List (List EntryData) → List TableState
replays [] journals = []
replays (shape ∷ schema) [] = []
replays (shape ∷ schema) (journal ∷ journals) = replay shape journal ∷ replays schema journals

-- the answers of the first entries, and then the memory line
abbrev pub StopsAtMemory : List ℕ → List EntryData → Type 0
StopsAtMemory text entries =
    (first : List EntryData) × (later : List EntryData) × (rest : List ℕ) × (first ++ later ≡ entries) × (text ≡ answers_in first ++ (memory_line ++ rest))

-- A session that sends the journals' text to empty tables of the schema is told the entries' answers, and the tables are then the replays.
-- Otherwise memory was refused: after the answers of the first entries it is told the memory line.
abbrev pub RunsAgain : List TableShape → List (List EntryData) → Type 0
RunsAgain schema journals =
    (old new : Machine) (session : ℕ) (told : List (List ℕ)) → old.tables ≡ map new_table schema → session < length old.unfinished → line_of old session ≡ short []
    → Run old (bytes_of session (journals_text journals) ++ end session ∷ []) told new
    → StopsAtMemory (joined told) (entries_in journals) ⊎ ((joined told ≡ answers_in (entries_in journals)) × (new.tables ≡ replays schema journals))
