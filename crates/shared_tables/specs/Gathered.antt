-- Journals that are what the passes know of them.
use Rattle.std.specs.Prelude.{◌≡◌, ℕ, ◌<◌, ◌≤◌, ◌==◌, List, [], ◌∷◌, length, filter, take, true, Option, Some, None}
use Rattle.table_schema.specs.Shape.{TableShape}
use Rattle.table_step.specs.Step.{step_of}
use Rattle.shared_tables.specs.Journal.{AnsweredData, EntryData, line_of, own, replay}
use Rattle.shared_tables.specs.Pass.{PassData, TrackData}
use Rattle.shared_tables.specs.Call.{CellData, is_known, track_at}

-- the answer after that many entries begins as the look says
pub record LookFits (shape : TableShape) (journal : List EntryData) (look : AnsweredData) : Type 0 where
  pub number : look.number ≤ length journal
  pub answer : take 256 (line_of (step_of (replay shape (take look.number journal)) look.command)) ≡ look.answer

abbrev pub LooksFit : TableShape → List EntryData → Option AnsweredData → Type 0
LooksFit shape journal None = Unit {0}
LooksFit shape journal (Some look) = LookFits shape journal look

-- the session's entries are these writes, by number, command and answer, in order
pub record Agrees (cell : CellData) (session : ℕ) (track : TrackData) : Type 0 where
  pub writes : own session cell.journal ≡ track.writes
  pub look : LooksFit cell.shape cell.journal track.look

-- the passes of a session
abbrev pub passes_of : ℕ → List PassData → List PassData
passes_of session passes = filter (λ p. p.session == session) passes

-- a session without a pass has no entry, and no session has two
abbrev pub AgreesWith : CellData → ℕ → List PassData → Type 0
AgreesWith cell session [] = own session cell.journal ≡ []
AgreesWith cell session (p ∷ []) = (is_known cell.shape.tables cell.workers p ≡ true) × Agrees cell session (track_at cell.shape.place p)
AgreesWith cell session (p ∷ q ∷ passes) = ⊥

abbrev pub SessionAgrees : List PassData → CellData → ℕ → Type 0
SessionAgrees passes cell session = AgreesWith cell session (passes_of session passes)

-- the least number for which it does not hold
abbrev pub FirstFailure : (ℕ → Type 0) → Option ℕ → Type 0
FirstFailure holds None = (n : ℕ) → holds n
FirstFailure holds (Some n) = (holds n → ⊥) × ((m : ℕ) → m < n → holds m)
