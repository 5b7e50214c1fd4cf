-- Journals, entry by entry.
use Rattle.std.proofs.Common.{◌≡◌, ℕ, ◌+◌, ◌==◌, ◌<◌, ◌≤◌, ◌↔◌, List, [], ◌∷◌, ◌++◌, length, refl, sym, ap, ◌∙◌, arith, take, drop, get_or}
use Rattle.std.specs.Prelude.{IsTrue}
use Rattle.std.proofs.lemmas.List.{drop_all, take_more, length-drop}
use Rattle.std.proofs.lemmas.Bool.Decides.{nat_tests}
use Rattle.table_schema.specs.Shape.{TableShape}
use Rattle.table_step.specs.Step.{Step, Steps, TableState, new_table, step_of}
use Rattle.table_terms.specs.declared.outcome.Outcome.{Outcome}
use Rattle.table_terms.specs.declared.outcome.Outcome.TheVariants as outcomes
use Rattle.shared_tables.specs.Journal.{AnsweredData, EntryData, line_of, own, own_from, replay}
use Rattle.shared_tables.proofs.Entries.{replay_from-push}

-- what is no refused growth was carried out
pub was_carried : (o : Outcome) (told_before told : List ℕ) (old new : TableState) (step : Step) → Steps o told_before told old new step
    → (o ≡ outcomes.Memory → ⊥) → (new ≡ step.table) × (told ≡ told_before ++ line_of step)
was_carried outcomes.Memory told_before told old new step h m = absurd (m refl)
was_carried outcomes.Write told_before told old new step h m = (h.table, h.line)
was_carried outcomes.Read told_before told old new step h m = (h.table, h.line)
was_carried outcomes.Refusal told_before told old new step h m = (h.table, h.line)

pub replay_more : (shape : TableShape) (journal : List EntryData) (k : ℕ) (e : EntryData) → k < length journal → e ≡ get_or journal k e
    → (step_of (replay shape (take k journal)) e.command).table ≡ replay shape (take (k + 1) journal)
replay_more shape journal k e h is =
    sym (ap (replay shape) (take_more journal k e h ∙ ap (λ x. take k journal ++ x ∷ []) (sym is)) ∙ replay_from-push (new_table shape) (take k journal) e)

-- the session's entries after the first ones
abbrev pub own_after : ℕ → ℕ → List EntryData → List AnsweredData
own_after session k journal = own_from session k (drop k journal)

-- whether the session's entries are these is whether the later ones are
abbrev pub Agree : ℕ → List EntryData → ℕ → List AnsweredData → ℕ → Type 0
Agree session journal k writes next = (own_after session k journal ≡ drop next writes) ↔ (own session journal ≡ writes)

drop_none : (k : ℕ) (xs : List AnsweredData) → k ≤ length xs → [] ≡ drop k xs → k ≡ length xs
drop_none k xs h e =
    let none : length (drop k xs) ≡ 0 = ap length (sym e) in
    omega (arith, length-drop k xs)

-- all entries are passed
pub agree_end : (session : ℕ) (journal : List EntryData) (k : ℕ) (writes : List AnsweredData) (next : ℕ)
    → length journal ≤ k → next ≤ length writes → Agree session journal k writes next → (next ≡ length writes) ↔ (own session journal ≡ writes)
agree_end session journal k writes next done bound so_far =
    let left : own_after session k journal ≡ [] = ap (own_from session k) (drop_all k journal done) in (
      λ same. let end : length writes ≤ next = omega arith in so_far.0 (left ∙ sym (drop_all next writes end)),
      λ all. drop_none next writes bound (sym left ∙ so_far.1 all),
    )

pub same_of : (m n : ℕ) → IsTrue (m == n) → m ≡ n
same_of m n h = grind (arith, nat_tests)

pub is_same_of : (m n : ℕ) → m ≡ n → IsTrue (m == n)
is_same_of m n h = grind (arith, nat_tests)
