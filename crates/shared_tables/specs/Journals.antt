-- The journals of all tables.
use Rattle.std.specs.Prelude.{◌≡◌, ℕ, List, [], ◌∷◌, length, map, take, All, Option, Some, None, slice_get}
use Rattle.table_schema.specs.Shape.{TableShape}
use Rattle.shared_tables.specs.Journal.{EntryData, IsLegal}
use Rattle.shared_tables.specs.Pass.{PassData}
use Rattle.shared_tables.specs.Call.{CellData}
use Rattle.shared_tables.specs.Hears.{SharedData}
use Rattle.shared_tables.specs.Gathered.{FirstFailure, SessionAgrees}
use Rattle.shared_tables.specs.declared.fault.GatherWhy.{GatherWhy}
use Rattle.shared_tables.specs.declared.fault.GatherWhy.TheVariants as whys

-- what a clause sees of the journals of a schema
pub record JournalsData : Type 0 where
  pub schema : List TableShape
  pub tables : List (List EntryData)

-- the tables with their journals
abbrev pub cells_of : List TableShape → ℕ → List (List EntryData) → List CellData
cells_of [] workers journals = []
cells_of (shape ∷ schema) workers [] = []
cells_of (shape ∷ schema) workers (journal ∷ journals) =
    record { shape = shape; workers = workers; journal = journal } ∷ cells_of schema workers journals

-- empty tables with empty journals
abbrev pub fresh_cells : List TableShape → ℕ → List CellData
fresh_cells schema workers = map (λ shape. record { shape = shape; workers = workers; journal = [] }) schema

abbrev pub IsLegalCell : CellData → Type 0
IsLegalCell cell = IsLegal cell.shape cell.journal

-- a legal journal for each table
pub record AreJournals (schema : List TableShape) (workers : ℕ) (journals : List (List EntryData)) : Type 0 where
  pub tables : length journals ≡ length schema
  pub legal : All IsLegalCell (cells_of schema workers journals)

-- each session's entries are its pass's writes, and each pass's last look fits
abbrev pub AllAgree : List PassData → CellData → Type 0
AllAgree passes cell = (session : ℕ) → SessionAgrees passes cell session

pub record Gathered (schema : List TableShape) (workers : ℕ) (journals : List (List EntryData)) (passes : List PassData) : Type 0 where
  pub journals_are : AreJournals schema workers journals
  pub agree : All (AllAgree passes) (cells_of schema workers journals)

-- the first table where they do not agree, and the least session there
pub record FirstAt (cells : List CellData) (passes : List PassData) (place : ℕ) (number : ℕ) : Type 0 where
  pub before : All (AllAgree passes) (take place cells)
  pub cell : CellData
  pub there : slice_get cells place ≡ Some cell
  pub least : FirstFailure (SessionAgrees passes cell) (Some number)

abbrev pub FirstMismatch : List CellData → List PassData → Option (ℕ × ℕ) → Type 0
FirstMismatch cells passes None = All (AllAgree passes) cells
FirstMismatch cells passes (Some at) = FirstAt cells passes at.0 at.1

-- of some legal journals of the tables, it is the first table and session where they do not agree
pub record MismatchAt (shared : SharedData) (passes : List PassData) (place : ℕ) (number : ℕ) : Type 0 where
  pub journals : List (List EntryData)
  pub journals_are : AreJournals shared.schema shared.workers journals
  pub first : FirstAt (cells_of shared.schema shared.workers journals) passes place number

abbrev pub Mismatches : SharedData → List PassData → GatherWhy → Type 0
Mismatches shared passes whys.Memory = Unit {0}
Mismatches shared passes (whys.Mismatch table session) = MismatchAt shared passes table session
