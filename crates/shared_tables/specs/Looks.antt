-- Last looks, beside a journal.
use Rattle.std.specs.Prelude.{◌≡◌, ℕ, ◌==◌, List, [], ◌∷◌, true, min, Option, Some, None, All}
use Rattle.shared_tables.specs.Journal.{AnsweredData, own}
use Rattle.shared_tables.specs.Pass.{PassData}
use Rattle.shared_tables.specs.Call.{CellData, is_known, track_at}
use Rattle.shared_tables.specs.Gathered.{LooksFit, passes_of}

-- ---- what a session knows but for its last look

-- a session without a pass has no entry, and no session has two
abbrev pub WritesAgreeWith : CellData → ℕ → List PassData → Type 0
WritesAgreeWith cell session [] = own session cell.journal ≡ []
WritesAgreeWith cell session (p ∷ []) =
    (is_known cell.shape.tables cell.workers p ≡ true) × (own session cell.journal ≡ (track_at cell.shape.place p).writes)
WritesAgreeWith cell session (p ∷ q ∷ passes) = ⊥

abbrev pub WritesAgree : List PassData → CellData → ℕ → Type 0
WritesAgree passes cell session = WritesAgreeWith cell session (passes_of session passes)

-- ---- the looks

abbrev pub look_of : ℕ → PassData → Option AnsweredData
look_of place pass = (track_at place pass).look

-- a fact of the look of each pass of a session
abbrev pub OfSession : (PassData → Type 0) → List PassData → ℕ → Type 0
OfSession Holds passes session = All (λ p. (p.session == session) ≡ true → Holds p) passes

abbrev pub Fits : CellData → PassData → Type 0
Fits cell pass = LooksFit cell.shape cell.journal (look_of cell.shape.place pass)

-- the lesser of two numbers, where they are there
abbrev pub lesser : Option ℕ → Option ℕ → Option ℕ
lesser None b = b
lesser (Some a) None = Some a
lesser (Some a) (Some b) = Some (min a b)
