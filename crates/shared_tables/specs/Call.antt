-- A call of a table.
use Rattle.std.specs.Prelude.{◌≡◌, ◌⊎◌, ℕ, ◌+◌, ◌==◌, ◌&&◌, List, [], ◌∷◌, length, take, Bool, nat_lt, if◌then◌else◌, Option, Some, None, Result, Ok, Err, slice_set, slice_index_or, ◌++◌}
use Rattle.table_cmd.specs.declared.command.Command.{Command}
use Rattle.table_schema.specs.Shape.{TableShape}
use Rattle.table_step.specs.Step.{memory_line, step_of}
use Rattle.shared_tables.specs.Journal.{EntryData, is_write, last_number, line_of, own, replay}
use Rattle.shared_tables.specs.Pass.{PassData, TrackData, fresh}
use Rattle.shared_tables.specs.declared.fault.CallFault.{CallFault}
use Rattle.shared_tables.specs.declared.fault.CallFault.TheVariants.{Stranger, Regressed}

-- what a clause sees of a table with its journal, which so many sessions call
pub record CellData : Type 0 where
  pub shape : TableShape
  pub workers : ℕ
  pub journal : List EntryData

abbrev pub track_at : ℕ → PassData → TrackData
track_at place pass = slice_index_or pass.tracks place fresh

-- whether a pass is of so many tables and one of so many sessions
abbrev pub is_known : ℕ → ℕ → PassData → Bool
is_known tables workers pass = (length pass.tracks == tables) && nat_lt pass.session workers

-- Where the pass does not fit the journal: its last own write is not the session's last entry, or else it saw more writes
-- than there are.
abbrev pub regress_of : List EntryData → ℕ → TrackData → Option CallFault
regress_of journal session track =
    let mine = last_number track.writes in
    let theirs = last_number (own session journal) in
    if mine == theirs then (if nat_lt (length journal) track.seen then Some (Regressed track.seen (length journal)) else None)
    else Some (Regressed mine theirs)

abbrev pub fault_of : CellData → PassData → Option CallFault
fault_of cell pass =
    if is_known cell.shape.tables cell.workers pass then regress_of cell.journal pass.session (track_at cell.shape.place pass)
    else Some Stranger

abbrev pub fault_in : {T : Type 0} → Result T CallFault → Option CallFault
fault_in (Ok x) = None
fault_in (Err e) = Some e

-- the journal after an answer
abbrev pub journal_after : CellData → ℕ → Command → List EntryData
journal_after cell session command =
    let step = step_of (replay cell.shape cell.journal) command in
    if is_write step.outcome then
    cell.journal ++ record { session = session; serial = length (own session cell.journal) + 1; command = command; answer = line_of step } ∷ []
    else cell.journal

-- the track after the same answer
abbrev pub track_after : CellData → Command → TrackData → TrackData
track_after cell command track =
    let step = step_of (replay cell.shape cell.journal) command in
    let number = length cell.journal in
    if is_write step.outcome then
    record { writes = track.writes ++ record { number = number + 1; command = command; answer = line_of step } ∷ []; seen = number + 1; look = track.look }
    else record { writes = track.writes; seen = number; look = Some (record { number = number; command = command; answer = take 256 (line_of step) }) }

abbrev pub cell_after : CellData → ℕ → Command → CellData
cell_after cell session command = record { shape = cell.shape; workers = cell.workers; journal = journal_after cell session command }

abbrev pub pass_after : CellData → Command → PassData → PassData
pass_after cell command pass =
    record { session = pass.session; tracks = slice_set pass.tracks cell.shape.place (track_after cell command (track_at cell.shape.place pass)) }

-- the answer in the state found, or else the memory line
abbrev pub Answers : CellData → PassData → Command → List ℕ → CellData → PassData → Type 0
Answers cell pass command text cell' pass' =
    ((text ≡ memory_line) × (cell' ≡ cell) × (pass' ≡ pass))
    ⊎ ((text ≡ line_of (step_of (replay cell.shape cell.journal) command)) × (cell' ≡ cell_after cell pass.session command)
    × (pass' ≡ pass_after cell command pass))

-- the same, appended to what was told before
abbrev pub PassTold : CellData → PassData → Command → List ℕ → List ℕ → CellData → PassData → Type 0
PassTold cell pass command told_before told cell' pass' = (text : List ℕ) × (told ≡ told_before ++ text) × Answers cell pass command text cell' pass'

-- the same of one table's track
abbrev pub TrackAnswers : CellData → ℕ → TrackData → Command → List ℕ → CellData → TrackData → Type 0
TrackAnswers cell session track command text cell' track' =
    ((text ≡ memory_line) × (cell' ≡ cell) × (track' ≡ track))
    ⊎ ((text ≡ line_of (step_of (replay cell.shape cell.journal) command)) × (cell' ≡ cell_after cell session command) × (track' ≡ track_after cell command track))

abbrev pub TrackTold : CellData → ℕ → TrackData → Command → List ℕ → List ℕ → CellData → TrackData → Type 0
TrackTold cell session track command told_before told cell' track' =
    (text : List ℕ) × (told ≡ told_before ++ text) × TrackAnswers cell session track command text cell' track'
