-- A table whose journal is one entry longer.
use Rattle.std.proofs.Common.{◌≡◌, ◌≢◌, ℕ, ◌+◌, ◌==◌, ◌<◌, ◌≤◌, Bool, true, false, List, [], ◌∷◌, ◌++◌, length, refl, sym, ap, ◌∙◌, arith, append-nil, length-append}
use Rattle.std.specs.Prelude.{if◌then◌else◌, slice_index_or, slice_set}
use Rattle.std.proofs.lemmas.List.{length-set, get_or-set_same, get_or-set_other}
use Rattle.std.proofs.lemmas.Bool.Decides.{nat_tests}
use Rattle.table_cmd.specs.declared.command.Command.{Command}
use Rattle.table_schema.specs.Shape.{TableShape}
use Rattle.table_step.specs.Step.{TableState, new_table, step_of}
use Rattle.shared_tables.specs.declared.tally.Tally.{Tally}
use Rattle.shared_tables.specs.Journal.{AnsweredData, EntryData, Fits, is_write, line_of, own, own_from, replay}
use Rattle.shared_tables.specs.Kept.{IsTally, IsKept, idle}
use Rattle.shared_tables.proofs.Entries.{LegalAfter-push, last_from-push, own-push, replay_from-push}

own_length_at : (b : Bool) (x : AnsweredData) (xs : List AnsweredData) (n : ℕ) → length xs ≤ n → length (if b then x ∷ xs else xs) ≤ n + 1
own_length_at true x xs n h = omega arith
own_length_at false x xs n h = omega arith

own_length : (session n : ℕ) (es : List EntryData) → length (own_from session n es) ≤ length es
own_length session n [] = omega arith
own_length session n (e ∷ es) =
    let h = own_length_at (e.session == session) (record { number = n + 1; command = e.command; answer = e.answer }) (own_from session (n + 1) es) (length es) (own_length session (n + 1) es) in
    omega arith

-- no session has more writes than the journal
pub count_fits : (shape : TableShape) (t : TableState) (journal : List EntryData) (tallies : List Tally) (session : ℕ)
    → IsKept shape t journal tallies → session < length tallies → (slice_index_or tallies session idle).count ≤ length journal
count_fits shape t journal tallies session kept within =
    let h = own_length session 0 journal in let e = (kept.counted session within).count in omega arith

tally_same : (tally : Tally) (writes : List AnsweredData) (a : AnsweredData) → IsTally tally writes
    → IsTally (record { count = tally.count + 1; last = a.number }) (writes ++ a ∷ [])
tally_same tally writes a h = record { count = (let e = h.count in omega (arith, length-append writes (a ∷ []))); last = sym (last_from-push 0 writes a) }

tally_at : (b : Bool) (session k : ℕ) (journal : List EntryData) (tallies : List Tally) (command : Command) (line : List ℕ)
    → (session == k) ≡ b → k < length tallies → IsTally (slice_index_or tallies k idle) (own k journal)
    → IsTally (slice_index_or (slice_set tallies session (record { count = (slice_index_or tallies session idle).count + 1; last = length journal + 1 })) k idle)
    (own k journal ++ (if b then record { number = length journal + 1; command = command; answer = line } ∷ [] else []))
tally_at true session k journal tallies command line e within h =
    let same : session ≡ k = grind (arith, nat_tests) in
    rw (same, get_or-set_same tallies k (record { count = (slice_index_or tallies k idle).count + 1; last = length journal + 1 }) idle within)
    (tally_same (slice_index_or tallies k idle) (own k journal) (record { number = length journal + 1; command = command; answer = line }) h)
tally_at false session k journal tallies command line e within h =
    let other : k ≢ session = grind (arith, nat_tests) in
    rw (get_or-set_other tallies session k (record { count = (slice_index_or tallies session idle).count + 1; last = length journal + 1 }) idle other, append-nil (own k journal)) h

still_none : (b : Bool) (writes : List AnsweredData) (a : AnsweredData) → b ≡ false → writes ≡ [] → writes ++ (if b then a ∷ [] else []) ≡ []
still_none true writes a e h = cc
still_none false writes a e h = append-nil writes ∙ h

-- an accepted write goes to the end of the journal
pub kept_write : (shape : TableShape) (t t' : TableState) (journal : List EntryData) (tallies : List Tally) (session : ℕ) (command : Command) (line : List ℕ)
    → IsKept shape t journal tallies → session < length tallies
    → is_write (step_of t command).outcome ≡ true → t' ≡ (step_of t command).table → line ≡ line_of (step_of t command)
    → IsKept shape t'
    (journal ++ record { session = session; serial = (slice_index_or tallies session idle).count + 1; command = command; answer = line } ∷ [])
    (slice_set tallies session (record { count = (slice_index_or tallies session idle).count + 1; last = length journal + 1 }))
kept_write shape t t' journal tallies session command line kept within write next is =
    let count : ℕ = (slice_index_or tallies session idle).count in
    let tally : Tally = record { count = count + 1; last = length journal + 1 } in
    let e : EntryData = record { session = session; serial = count + 1; command = command; answer = line } in
    let same : step_of t command ≡ step_of (replay shape journal) command = ap (λ v. step_of v command) kept.replays in
    let width : length (slice_set tallies session tally) ≡ length tallies = length-set tallies session tally in
    let fits : Fits shape journal e = record {
      write = ap (λ v. is_write v.outcome) (sym same) ∙ write;
      answer = is ∙ ap (λ v. line_of v) same;
      serial = ap (λ v. v + 1) (kept.counted session within).count;
    } in
    record {
      placed = kept.placed;
      legal = LegalAfter-push shape [] journal e kept.legal fits;
      replays = next ∙ ap (λ v. v.table) same ∙ sym (replay_from-push (new_table shape) journal e);
      counted = λ k at.
          let within' : k < length tallies = omega arith in
          rw (own-push k journal e) (tally_at (session == k) session k journal tallies command line refl within' (kept.counted k within'));
      few = (let few = kept.few in omega arith);
      others = λ k at.
          let beyond : length tallies ≤ k = omega arith in
          let other : (session == k) ≡ false = grind (arith, nat_tests) in
          own-push k journal e ∙ still_none (session == k) (own k journal) (record { number = length journal + 1; command = command; answer = line }) other (kept.others k beyond);
    }
