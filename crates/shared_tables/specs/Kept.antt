-- What holds of each table behind a lock.
use Rattle.std.specs.Prelude.{◌≡◌, ℕ, ◌<◌, ◌≤◌, List, [], length, slice_index_or, Option, All}
use Rattle.table_schema.specs.Shape.{TableShape}
use Rattle.table_step.specs.Step.{TableState}
use Rattle.shared_tables.specs.Gathered.{LooksFit}
use Rattle.shared_tables.specs.Journal.{AnsweredData, EntryData, IsLegal, last_number, own, replay}
use Rattle.shared_tables.specs.declared.tally.Tally.{Tally}

-- how many these are, and the number of the last
pub record IsTally (tally : Tally) (writes : List AnsweredData) : Type 0 where
  pub count : tally.count ≡ length writes
  pub last : tally.last ≡ last_number writes

abbrev pub idle : Tally
idle = record { count = 0; last = 0 }

pub record IsKept (shape : TableShape) (table : TableState) (journal : List EntryData) (tallies : List Tally) : Type 0 where
  pub placed : shape.place < shape.tables
  pub legal : IsLegal shape journal
  pub replays : table ≡ replay shape journal
  pub counted : (session : ℕ) → session < length tallies → IsTally (slice_index_or tallies session idle) (own session journal)
  pub few : length tallies < 4294967296
  pub others : (session : ℕ) → length tallies ≤ session → own session journal ≡ []

-- a look of each session, where there is one, which fits the journal
pub record AreKept (shape : TableShape) (journal : List EntryData) (workers : ℕ) (looks : List (Option AnsweredData)) : Type 0 where
  pub each : length looks ≡ workers
  pub fit : All (LooksFit shape journal) looks
