-- The passes of a session, one pass at a time.
use Rattle.std.proofs.Common.{◌≡◌, ℕ, ◌+◌, ◌==◌, ◌<◌, ◌≤◌, Bool, true, false, List, [], ◌∷◌, ◌++◌, length, refl, sym, ap, ◌∙◌, subst, arith, take, drop, get_or}
use Rattle.std.specs.Prelude.{All, cond, nat_lt, ◌&&◌, Option, Some, None}
use Rattle.std.proofs.lemmas.List.{take-append-drop}
use Rattle.std.proofs.lemmas.List.Elements.{filter-append, filter_more, filter_passes}
use Rattle.std.proofs.lemmas.Bool.Decides.{nat_tests}
use Rattle.std.proofs.lemmas.Bool.{cond-true}
use Rattle.shared_tables.specs.Pass.{PassData}
use Rattle.shared_tables.specs.Gathered.{FirstFailure, passes_of}
use Rattle.shared_tables.specs.Looks.{WritesAgree, WritesAgreeWith}
use Rattle.shared_tables.specs.Holders.{IsHolder}
use Rattle.shared_tables.specs.Call.{CellData}
use Rattle.shared_tables.specs.Journal.{own}
use Rattle.shared_tables.specs.declared.holder.Holder.{Holder}
use Rattle.shared_tables.specs.declared.holder.Holder.TheVariants.{Nobody, One, Several}

module _ (session : ℕ) (passes : List PassData) (k : ℕ) (p : PassData) where
  more : k < length passes → p ≡ get_or passes k p → passes_of session (take (k + 1) passes) ≡ passes_of session (take k passes) ++ cond (p.session == session) (p ∷ []) []
  more h is = filter_more (λ q. q.session == session) passes k p h ∙ ap (λ (q : PassData). passes_of session (take k passes) ++ cond (q.session == session) (q ∷ []) []) (sym is)

  pub passes_more : k < length passes → p ≡ get_or passes k p → p.session ≡ session → passes_of session (take (k + 1) passes) ≡ passes_of session (take k passes) ++ p ∷ []
  passes_more h is mine =
      let b : (p.session == session) ≡ true = grind (arith, nat_tests) in
      more h is ∙ ap (λ xs. passes_of session (take k passes) ++ xs) (cond-true (p.session == session) (p ∷ []) [] b)

-- the passes of a session among all are those among the first ones, and then others
pub passes_rest : (session : ℕ) (passes : List PassData) (k : ℕ) → passes_of session passes ≡ passes_of session (take k passes) ++ passes_of session (drop k passes)
passes_rest session passes k = ap (passes_of session) (sym (take-append-drop k passes)) ∙ filter-append (λ q. q.session == session) (take k passes) (drop k passes)

-- a session with another pass has two
pub two : (session : ℕ) (passes : List PassData) (k : ℕ) (p : PassData) (found : Holder) → k < length passes → p ≡ get_or passes k p → p.session ≡ session
    → IsHolder found (passes_of session (take k passes)) → (found ≡ Nobody → ⊥) → IsHolder Several (passes_of session passes)
two session passes k p Nobody h is mine holds some = absurd (some refl)
two session passes k p (One q) h is mine holds some =
    let later = passes_of session (drop (k + 1) passes) in
    (q.now, p, later, passes_rest session passes (k + 1) ∙ ap (λ xs. xs ++ later) (passes_more session passes k p h is mine ∙ ap (λ xs. xs ++ p ∷ []) holds))
two session passes k p Several h is mine holds some =
    let later = passes_of session (drop k passes) in
    (holds.0, holds.1, holds.2 ++ later, passes_rest session passes k ∙ ap (λ xs. xs ++ later) holds.3)

known_session : (tables workers : ℕ) (p : PassData) (a b : Bool) → (a && b) ≡ true → b ≡ true
known_session tables workers p true b e = e
known_session tables workers p false b e = cc

none_of : (cell : CellData) (session : ℕ) (passes : List PassData) → cell.workers ≤ session → All (λ p. (p.session == session) ≡ true) passes → WritesAgreeWith cell session passes → passes ≡ []
none_of cell session [] h mine agrees = refl
none_of cell session (p ∷ []) h mine agrees =
    let same : (p.session == session) ≡ true = mine 0 p (omega arith) in
    let below : nat_lt p.session cell.workers ≡ true = known_session cell.shape.tables cell.workers p (length p.tracks == cell.shape.tables) (nat_lt p.session cell.workers) agrees.0 in
    absurd (grind (arith, nat_tests))
none_of cell session (p ∷ q ∷ passes) h mine agrees = absurd agrees

-- beyond the sessions, that none has a pass is that they agree
module _ (cell : CellData) (passes : List PassData) (session : ℕ) where
  no_passes : cell.workers ≤ session → WritesAgree passes cell session → passes_of session passes ≡ []
  no_passes h agrees = none_of cell session (passes_of session passes) h (filter_passes (λ p. p.session == session) passes) agrees

  no_entries : own session cell.journal ≡ [] → passes_of session passes ≡ [] → WritesAgree passes cell session
  no_entries none e = subst (λ ps. WritesAgreeWith cell session ps) (sym e) none

agrees_at : (cell : CellData) (passes : List PassData) (session : ℕ) (b : Bool) → nat_lt session cell.workers ≡ b
    → (session < cell.workers → WritesAgree passes cell session) → (cell.workers ≤ session → own session cell.journal ≡ [])
    → (cell.workers ≤ session → passes_of session passes ≡ []) → WritesAgree passes cell session
agrees_at cell passes session true e below others none = below (grind (arith, nat_tests))
agrees_at cell passes session false e below others none =
    let beyond : cell.workers ≤ session = grind (arith, nat_tests) in
    no_entries cell passes session (others beyond) (none beyond)

-- where the sessions agree, the first failure is that of a pass beyond them
pub first_of_all : (cell : CellData) (passes : List PassData) (first : Option ℕ)
    → ((session : ℕ) → session < cell.workers → WritesAgree passes cell session)
    → ((session : ℕ) → cell.workers ≤ session → own session cell.journal ≡ [])
    → FirstFailure (λ session. cell.workers ≤ session → passes_of session passes ≡ []) first
    → FirstFailure (WritesAgree passes cell) first
first_of_all cell passes None below others all = λ n. agrees_at cell passes n (nat_lt n cell.workers) refl (below n) (others n) (all n)
first_of_all cell passes (Some n) below others fails = (
  λ agrees. fails.0 (λ beyond. no_passes cell passes n beyond agrees),
  λ m h. agrees_at cell passes m (nat_lt m cell.workers) refl (below m) (others m) (fails.1 m h),
)
