-- The least session that fails, of several facts and of several passes.
use Rattle.std.proofs.Common.{◌≡◌, ℕ, ◌+◌, ◌==◌, ◌<◌, ◌≤◌, Bool, true, false, List, [], ◌∷◌, ◌++◌, length, refl, sym, ap, ◌∙◌, subst, arith, take, get_or, min, eq-eqb}
use Rattle.std.specs.Prelude.{All, IsTrue, ◌↔◌, Option, Some, None, nat_lt, cond}
use Rattle.std.proofs.lemmas.List.{take_all, take_more}
use Rattle.std.proofs.lemmas.List.Elements.{All-nil, All-cons, All-head, All-tail, All-push, All-pop}
use Rattle.std.proofs.lemmas.Bool.Decides.{nat_tests}
use Rattle.shared_tables.specs.Call.{CellData}
use Rattle.shared_tables.specs.Gathered.{AgreesWith, FirstFailure, SessionAgrees, passes_of}
use Rattle.shared_tables.specs.Looks.{Fits, OfSession, WritesAgree, WritesAgreeWith, lesser}
use Rattle.shared_tables.specs.Pass.{PassData}

-- ---- two facts

module _ (A B C : ℕ → Type 0) (join : (n : ℕ) → A n → B n → C n) (split : (n : ℕ) → C n → A n × B n) where
  lesser_fails : (a b : ℕ) (v : Bool) → nat_lt b a ≡ v → (A a → ⊥) → (B b → ⊥) → C (min a b) → ⊥
  lesser_fails a b true e first second h =
      let below : b < a = grind (arith, nat_tests) in
      let same : min a b ≡ b = omega arith in
      second (split b (subst C same h)).1
  lesser_fails a b false e first second h =
      let above : a ≤ b = grind (arith, nat_tests) in
      let same : min a b ≡ a = omega arith in
      first (split a (subst C same h)).0

  -- the least failure of both is the lesser of the two
  pub first_of_both : (a b : Option ℕ) → FirstFailure A a → FirstFailure B b → FirstFailure C (lesser a b)
  first_of_both None None first second = λ n. join n (first n) (second n)
  first_of_both None (Some b) first second = (λ h. second.0 (split b h).1, λ m below. join m (first m) (second.1 m below))
  first_of_both (Some a) None first second = (λ h. first.0 (split a h).0, λ m below. join m (first.1 m below) (second m))
  first_of_both (Some a) (Some b) first second = (
    lesser_fails a b (nat_lt b a) refl first.0 second.0,
    λ m below. join m (first.1 m (omega arith)) (second.1 m (omega arith)),
  )

lesser_none : (a : Option ℕ) → lesser a None ≡ a
lesser_none None = refl
lesser_none (Some a) = refl

-- ---- the passes, one after another

module _ (Holds : PassData → Type 0) (passes : List PassData) (k : ℕ) (p : PassData) where
  -- where the fact holds of one pass more, and where it does not
  module _ (within : k < length passes) (is : p ≡ get_or passes k p) where
    more : take (k + 1) passes ≡ take k passes ++ p ∷ []
    more = take_more passes k p within ∙ ap (λ q. take k passes ++ q ∷ []) (sym is)

    with_one : (session : ℕ) → OfSession Holds (take k passes) session → ((p.session == session) ≡ true → Holds p) → OfSession Holds (take (k + 1) passes) session
    with_one session first one =
        subst (λ ps. OfSession Holds ps session) (sym more) (All-push (λ q. (q.session == session) ≡ true → Holds q) (take k passes) p first one)

    parts : (session : ℕ) → OfSession Holds (take (k + 1) passes) session → OfSession Holds (take k passes) session × ((p.session == session) ≡ true → Holds p)
    parts session all = All-pop (λ q. (q.session == session) ≡ true → Holds q) (take (k + 1) passes) (take k passes) (Some p) more all

    one_more : (a b : Option ℕ) → FirstFailure (OfSession Holds (take k passes)) a → FirstFailure (λ session. (p.session == session) ≡ true → Holds p) b
        → FirstFailure (OfSession Holds (take (k + 1) passes)) (lesser a b)
    one_more = first_of_both (OfSession Holds (take k passes)) (λ session. (p.session == session) ≡ true → Holds p) (OfSession Holds (take (k + 1) passes)) with_one parts

    pub one_holds : (least : Option ℕ) → FirstFailure (OfSession Holds (take k passes)) least → Holds p → FirstFailure (OfSession Holds (take (k + 1) passes)) least
    one_holds least first holds =
        subst (FirstFailure (OfSession Holds (take (k + 1) passes))) (lesser_none least) (one_more least None first (λ n mine. holds))

    pub one_fails : (least : Option ℕ) → FirstFailure (OfSession Holds (take k passes)) least → (Holds p → ⊥)
        → FirstFailure (OfSession Holds (take (k + 1) passes)) (lesser least (Some p.session))
    one_fails least first fails =
        one_more least (Some p.session) first (λ all. fails (all (eq-eqb p.session p.session refl)), λ m below mine. absurd (grind (arith, nat_tests)))

pub all_done : (Holds : PassData → Type 0) (passes : List PassData) (k : ℕ) (least : Option ℕ) → length passes ≤ k
    → FirstFailure (OfSession Holds (take k passes)) least → FirstFailure (OfSession Holds passes) least
all_done Holds passes k least done first = subst (λ ps. FirstFailure (OfSession Holds ps) least) (take_all k passes done) first

-- what a test says
pub fails_by : (v : Bool) (P : Type 0) → v ≡ false → (IsTrue v ↔ P) → P → ⊥
fails_by v P e is holds =
    let yes : v ≡ true = is.1 holds in
    cc

pub holds_by : (v : Bool) (P : Type 0) → v ≡ true → (IsTrue v ↔ P) → P
holds_by v P e is = is.0 e

-- ---- writes and looks together

filtered_at : (Holds : PassData → Type 0) (v : Bool) (p : PassData) (rest : List PassData) → (v ≡ true → Holds p) → All Holds rest → All Holds (cond v (p ∷ rest) rest)
filtered_at Holds true p rest first all = All-cons Holds p rest (first refl) all
filtered_at Holds false p rest first all = all

filtered : (Holds : PassData → Type 0) (session : ℕ) (passes : List PassData) → OfSession Holds passes session → All Holds (passes_of session passes)
filtered Holds session [] all = All-nil Holds
filtered Holds session (p ∷ passes) all =
    filtered_at Holds (p.session == session) p (passes_of session passes) (All-head (λ q. (q.session == session) ≡ true → Holds q) p passes all)
    (filtered Holds session passes (All-tail (λ q. (q.session == session) ≡ true → Holds q) p passes all))

first_filtered : (Holds : PassData → Type 0) (v : Bool) (p : PassData) (rest : List PassData) → All Holds (cond v (p ∷ rest) rest) → v ≡ true → Holds p
first_filtered Holds true p rest all e = All-head Holds p rest all
first_filtered Holds false p rest all e = absurd cc

rest_filtered : (Holds : PassData → Type 0) (v : Bool) (p : PassData) (rest : List PassData) → All Holds (cond v (p ∷ rest) rest) → All Holds rest
rest_filtered Holds true p rest all = All-tail Holds p rest all
rest_filtered Holds false p rest all = all

unfiltered : (Holds : PassData → Type 0) (session : ℕ) (passes : List PassData) → All Holds (passes_of session passes) → OfSession Holds passes session
unfiltered Holds session [] all = All-nil (λ q. (q.session == session) ≡ true → Holds q)
unfiltered Holds session (p ∷ passes) all =
    All-cons (λ q. (q.session == session) ≡ true → Holds q) p passes (first_filtered Holds (p.session == session) p (passes_of session passes) all)
    (unfiltered Holds session passes (rest_filtered Holds (p.session == session) p (passes_of session passes) all))

agrees_joined : (cell : CellData) (session : ℕ) (passes : List PassData) → WritesAgreeWith cell session passes → All (Fits cell) passes → AgreesWith cell session passes
agrees_joined cell session [] writes looks = writes
agrees_joined cell session (p ∷ []) writes looks = (writes.0, record { writes = writes.1; look = All-head (Fits cell) p [] looks })
agrees_joined cell session (p ∷ q ∷ passes) writes looks = absurd writes

agrees_split : (cell : CellData) (session : ℕ) (passes : List PassData) → AgreesWith cell session passes → WritesAgreeWith cell session passes × All (Fits cell) passes
agrees_split cell session [] agrees = (agrees, All-nil (Fits cell))
agrees_split cell session (p ∷ []) agrees = ((agrees.0, agrees.1.writes), All-cons (Fits cell) p [] agrees.1.look (All-nil (Fits cell)))
agrees_split cell session (p ∷ q ∷ passes) agrees = absurd agrees

-- the least session that does not agree is the lesser of two: of whose writes, and of whose look
pub first_of_writes_and_looks : (cell : CellData) (passes : List PassData) (a b : Option ℕ) → FirstFailure (WritesAgree passes cell) a
    → FirstFailure (OfSession (Fits cell) passes) b → FirstFailure (SessionAgrees passes cell) (lesser a b)
first_of_writes_and_looks cell passes =
    first_of_both (WritesAgree passes cell) (OfSession (Fits cell) passes) (SessionAgrees passes cell)
    (λ session writes looks. agrees_joined cell session (passes_of session passes) writes (filtered (Fits cell) session passes looks))
    (λ session agrees.
    let both = agrees_split cell session (passes_of session passes) agrees in
    (both.0, unfiltered (Fits cell) session passes both.1))
