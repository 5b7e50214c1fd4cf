-- The looks that a table has of its sessions.
use Rattle.std.proofs.Common.{◌≡◌, ◌⊎◌, ℕ, ◌<◌, inl, inr, List, [], ◌∷◌, ◌++◌, length, sym, ap, ◌∙◌, subst, arith, take, length-append}
use Rattle.std.specs.Prelude.{All, Option, Some, None, slice_index_or, slice_set}
use Rattle.std.proofs.lemmas.List.{length-set, take_all, take-append-le}
use Rattle.std.proofs.lemmas.List.Elements.{All-set, All-weaker}
use Rattle.table_cmd.specs.declared.command.Command.{Command}
use Rattle.table_schema.specs.Shape.{TableShape}
use Rattle.table_step.specs.Step.{TableState, step_of}
use Rattle.shared_tables.specs.Gathered.{LookFits, LooksFit}
use Rattle.shared_tables.specs.Journal.{AnsweredData, EntryData, line_of, replay}
use Rattle.shared_tables.specs.Kept.{AreKept}

-- a look fits a journal that goes on
fits_more : (shape : TableShape) (journal more : List EntryData) (look : Option AnsweredData) → LooksFit shape journal look → LooksFit shape (journal ++ more) look
fits_more shape journal more None fits = tt
fits_more shape journal more (Some look) fits = record {
  number = (let few = fits.number in omega (arith, length-append journal more));
  answer = ap (λ js. take 256 (line_of (step_of (replay shape js) look.command))) (take-append-le look.number journal more fits.number) ∙ fits.answer;
}

-- one that was answered at the journal's end
fits_last : (shape : TableShape) (t : TableState) (journal : List EntryData) (look : AnsweredData)
    → t ≡ replay shape journal → look.number ≡ length journal → look.answer ≡ take 256 (line_of (step_of t look.command)) → LookFits shape journal look
fits_last shape t journal look same at is = record {
  number = omega arith;
  answer =
      ap (λ js. take 256 (line_of (step_of (replay shape js) look.command))) (take_all look.number journal (omega arith))
      ∙ ap (λ u. take 256 (line_of (step_of u look.command))) (sym same) ∙ sym is;
}

-- after a further entry
pub kept_more : (shape : TableShape) (journal journal' before : List EntryData) (e : EntryData) (workers workers' : ℕ) (looks : List (Option AnsweredData))
    → AreKept shape journal workers looks → before ≡ journal → journal' ≡ before ++ e ∷ [] → workers ≡ workers' → AreKept shape journal' workers' looks
kept_more shape journal journal' before e workers workers' looks kept items is width =
    let more : journal ++ e ∷ [] ≡ journal' = ap (λ js. js ++ e ∷ []) (sym items) ∙ sym is in
    record {
      each = kept.each ∙ width;
      fit = subst (λ js. All (LooksFit shape js) looks) more (All-weaker (LooksFit shape journal) (LooksFit shape (journal ++ e ∷ [])) (fits_more shape journal (e ∷ [])) looks kept.fit);
    }

-- what the table is told, or else the look that it had
told_fits : (shape : TableShape) (journal : List EntryData) (looks : List (Option AnsweredData)) (session : ℕ) (old new next : Option AnsweredData)
    → All (LooksFit shape journal) looks → session < length looks → old ≡ slice_index_or looks session old → LooksFit shape journal next
    → (new ≡ next) ⊎ (new ≡ old) → LooksFit shape journal new
told_fits shape journal looks session old new next fit within found fits (inl is) = subst (LooksFit shape journal) (sym is) fits
told_fits shape journal looks session old new next fit within found fits (inr is) = subst (LooksFit shape journal) (sym (is ∙ found)) (fit session old within)

-- after a look at the journal's end
pub kept_look : (shape : TableShape) (t : TableState) (journal before : List EntryData) (workers : ℕ) (looks : List (Option AnsweredData)) (session : ℕ) (old new next : Option AnsweredData)
    (number : ℕ) (command : Command) (answer : List ℕ)
    → AreKept shape journal workers looks → session < workers → old ≡ slice_index_or looks session old → (new ≡ next) ⊎ (new ≡ old)
    → next ≡ Some (record { number = number; command = command; answer = answer })
    → before ≡ journal → t ≡ replay shape journal → number ≡ length before → answer ≡ take 256 (line_of (step_of t command))
    → AreKept shape before workers (slice_set looks session new)
kept_look shape t journal before workers looks session old new next number command answer kept within found told look items same at is =
    let below : session < length looks = subst (λ n. session < n) (sym kept.each) within in
    let fits : LookFits shape journal (record { number = number; command = command; answer = answer }) =
    fits_last shape t journal (record { number = number; command = command; answer = answer }) same (at ∙ ap length items) is in
    let next_fits : LooksFit shape journal next = subst (LooksFit shape journal) (sym look) fits in
    let new_fits : LooksFit shape journal new = told_fits shape journal looks session old new next kept.fit below found next_fits told in
    record {
      each = length-set looks session new ∙ kept.each;
      fit = subst (λ js. All (LooksFit shape js) (slice_set looks session new)) (sym items) (All-set (LooksFit shape journal) looks session new new_fits kept.fit);
    }
