-- What holds of each write of the passes holds of each entry of the journals that were gathered from them.
use Rattle.std.proofs.Common.{◌≡◌, ℕ, zero, suc, ◌+◌, ◌==◌, Bool, true, false, cond, List, [], ◌∷◌, ◌++◌, length, get_or, refl, sym, subst, arith}
use Rattle.std.proofs.lemmas.Bool.{eq-eqb}
use Rattle.std.proofs.lemmas.List.Elements.{All-nil, All-from_recursion, recursion_from_All}
use Rattle.std.specs.List.{All, AllByRecursion}
use Rattle.table_schema.specs.Shape.{TableShape}
use Rattle.table_schema.specs.Valid.{IsValidSchema}
use Rattle.shared_tables.specs.Again.{CanBeSaid, CanBeRead, KnowsReadable, RunsAgain}
use Rattle.shared_tables.specs.Call.{CellData, track_at}
use Rattle.shared_tables.specs.Gathered.{AgreesWith, passes_of}
use Rattle.shared_tables.specs.Journal.{AnsweredData, EntryData, own, own_from}
use Rattle.shared_tables.specs.Journals.{AllAgree, Gathered, cells_of}
use Rattle.shared_tables.specs.Pass.{PassData, TrackData, fresh}
use Rattle.shared_tables.specs.Text.{entries_in}
use Rattle.shared_tables.proofs.Again.{runs_again}

-- writes that can be said
abbrev AreSaid : List AnsweredData → Type 0
AreSaid = AllByRecursion (λ a. CanBeSaid a.command)

abbrev TrackIsSaid : TrackData → Type 0
TrackIsSaid track = All (λ a. CanBeSaid a.command) track.writes

-- ---- a journal, by the writes of each session

first_said : (b : Bool) (a : AnsweredData) (rest : List AnsweredData) → b ≡ true → AreSaid (cond b (a ∷ rest) rest) → CanBeSaid a.command
first_said true a rest e h = h.0
first_said false a rest e h = absurd cc

rest_said : (b : Bool) (a : AnsweredData) (rest : List AnsweredData) → AreSaid (cond b (a ∷ rest) rest) → AreSaid rest
rest_said true a rest h = h.1
rest_said false a rest h = h

journal_said : (n : ℕ) (es : List EntryData) → ((session : ℕ) → AreSaid (own_from session n es)) → AllByRecursion CanBeRead es
journal_said n [] each = tt
journal_said n (e ∷ es) each =
    let a : AnsweredData = record { number = n + 1; command = e.command; answer = e.answer } in (
      first_said (e.session == e.session) a (own_from e.session (n + 1) es) (eq-eqb e.session e.session refl) (each e.session),
      journal_said (n + 1) es (λ session. rest_said (e.session == session) a (own_from session (n + 1) es) (each session)),
    )

-- ---- the writes of a session, by its pass

filter_step : (b : Bool) (p : PassData) (ps : List PassData) → KnowsReadable p → AllByRecursion KnowsReadable ps → AllByRecursion KnowsReadable (cond b (p ∷ ps) ps)
filter_step true p ps first rest = (first, rest)
filter_step false p ps first rest = rest

passes_said : (session : ℕ) (passes : List PassData) → AllByRecursion KnowsReadable passes → AllByRecursion KnowsReadable (passes_of session passes)
passes_said session [] h = tt
passes_said session (p ∷ passes) h = filter_step (p.session == session) p (passes_of session passes) h.0 (passes_said session passes h.1)

track_said : (tracks : List TrackData) (k : ℕ) → AllByRecursion TrackIsSaid tracks → TrackIsSaid (get_or tracks k fresh)
track_said [] k h = All-nil (λ a. CanBeSaid a.command)
track_said (t ∷ tracks) zero h = h.0
track_said (t ∷ tracks) (suc k) h = track_said tracks k h.1

own_said : (cell : CellData) (session : ℕ) (passes : List PassData) → AllByRecursion KnowsReadable passes → AgreesWith cell session passes → AreSaid (own session cell.journal)
own_said cell session [] known agrees = subst AreSaid (sym agrees) tt
own_said cell session (p ∷ []) known agrees =
    let track = track_at cell.shape.place p in
    let said : TrackIsSaid track = track_said p.tracks cell.shape.place (recursion_from_All TrackIsSaid p.tracks known.0) in
    subst AreSaid (sym agrees.1.writes) (recursion_from_All (λ a. CanBeSaid a.command) track.writes said)
own_said cell session (p ∷ q ∷ passes) known agrees = absurd agrees

-- ---- all journals

said_together : (xs ys : List EntryData) → AllByRecursion CanBeRead xs → AllByRecursion CanBeRead ys → AllByRecursion CanBeRead (xs ++ ys)
said_together [] ys h k = k
said_together (x ∷ xs) ys h k = (h.0, said_together xs ys h.1 k)

entries_said : (schema : List TableShape) (workers : ℕ) (journals : List (List EntryData)) (passes : List PassData) → length journals ≡ length schema
    → AllByRecursion KnowsReadable passes → AllByRecursion (AllAgree passes) (cells_of schema workers journals) → AllByRecursion CanBeRead (entries_in journals)
entries_said schema workers [] passes count known agree = tt
entries_said [] workers (j ∷ js) passes count known agree = absurd cc
entries_said (shape ∷ schema) workers (j ∷ js) passes count known agree =
    let cell : CellData = record { shape = shape; workers = workers; journal = j } in
    said_together j (entries_in js) (journal_said 0 j (λ session. own_said cell session (passes_of session passes) (passes_said session passes known) (agree.0 session)))
    (entries_said schema workers js passes (omega arith) known agree.1)

pub gathered_runs_again : (schema : List TableShape) (workers : ℕ) (journals : List (List EntryData)) (passes : List PassData) → IsValidSchema schema → Gathered schema workers journals passes
    → All KnowsReadable passes → RunsAgain schema journals
gathered_runs_again schema workers journals passes valid gathered known =
    runs_again schema workers journals valid gathered.journals_are
    (All-from_recursion CanBeRead (entries_in journals)
    (entries_said schema workers journals passes gathered.journals_are.tables (recursion_from_All KnowsReadable passes known)
    (recursion_from_All (AllAgree passes) (cells_of schema workers journals) gathered.agree)))
