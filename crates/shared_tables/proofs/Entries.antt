-- A journal that is one entry longer.
use Rattle.std.proofs.Common.{◌≡◌, ℕ, ◌+◌, ◌==◌, Bool, true, false, List, [], ◌∷◌, ◌++◌, length, refl, sym, ap, ◌∙◌, subst, arith, append_assoc, append-nil}
use Rattle.std.specs.Prelude.{if◌then◌else◌}
use Rattle.table_schema.specs.Shape.{TableShape}
use Rattle.table_step.specs.Step.{TableState, step_of}
use Rattle.shared_tables.specs.Journal.{EntryData, AnsweredData, replay_from, own_from, own, last_from, Fits, LegalAfter}

pub replay_from-push : (t : TableState) (es : List EntryData) (e : EntryData) → replay_from t (es ++ e ∷ []) ≡ (step_of (replay_from t es) e.command).table
replay_from-push t [] e = refl
replay_from-push t (x ∷ es) e = replay_from-push (step_of t x.command).table es e

-- the writes of a session that a last entry adds
abbrev pub own_of : ℕ → ℕ → EntryData → List AnsweredData
own_of session n e = if e.session == session then record { number = n + 1; command = e.command; answer = e.answer } ∷ [] else []

cons_then : (b : Bool) (x : AnsweredData) (xs ys zs : List AnsweredData) → xs ≡ ys ++ zs → (if b then x ∷ xs else xs) ≡ (if b then x ∷ ys else ys) ++ zs
cons_then true x xs ys zs e = ap (λ v. x ∷ v) e
cons_then false x xs ys zs e = e

own_of_at : (session : ℕ) (m n : ℕ) (e : EntryData) → m ≡ n → own_of session m e ≡ own_of session n e
own_of_at session m n e h = ap (λ k. own_of session k e) h

pub own_from-push : (session n : ℕ) (es : List EntryData) (e : EntryData) → own_from session n (es ++ e ∷ []) ≡ own_from session n es ++ own_of session (n + length es) e
own_from-push session n [] e = own_of_at session n (n + 0) e (omega arith)
own_from-push session n (x ∷ es) e =
    cons_then (x.session == session) _ _ _ _ (own_from-push session (n + 1) es e ∙ ap (λ v. own_from session (n + 1) es ++ v) (own_of_at session (n + 1 + length es) (n + length (x ∷ es)) e (omega arith)))

pub own-push : (session : ℕ) (journal : List EntryData) (e : EntryData) → own session (journal ++ e ∷ []) ≡ own session journal ++ own_of session (length journal) e
own-push session journal e = own_from-push session 0 journal e ∙ ap (λ v. own session journal ++ v) (own_of_at session (0 + length journal) (length journal) e (omega arith))

pub last_from-push : (n : ℕ) (given : List AnsweredData) (a : AnsweredData) → last_from n (given ++ a ∷ []) ≡ a.number
last_from-push n [] a = refl
last_from-push n (x ∷ given) a = last_from-push x.number given a

pub LegalAfter-push : (shape : TableShape) (past es : List EntryData) (e : EntryData) → LegalAfter shape past es → Fits shape (past ++ es) e → LegalAfter shape past (es ++ e ∷ [])
LegalAfter-push shape past [] e h f = (subst (λ p. Fits shape p e) (append-nil past) f, tt)
LegalAfter-push shape past (x ∷ es) e h f =
    (h.0, LegalAfter-push shape (past ++ x ∷ []) es e h.1 (subst (λ p. Fits shape p e) (sym (append_assoc past (x ∷ []) es)) f))
