-- What a call leaves, over plain values.
use Rattle.std.proofs.Common.{◌≡◌, ℕ, ◌+◌, ◌<◌, ◌≤◌, inr, true, false, List, [], ◌∷◌, ◌++◌, length, refl, sym, ap, ◌∙◌, arith, take, drop, length-append}
use Rattle.std.specs.Prelude.{slice_index_or, slice_set, Option, Some}
use Rattle.std.proofs.lemmas.List.{take_all, get_or_default}
use Rattle.table_cmd.specs.declared.command.Command.{Command}
use Rattle.table_schema.specs.Shape.{TableShape}
use Rattle.table_step.specs.Step.{Step, Steps, TableState, Took, step_of}
use Rattle.table_terms.specs.Step.{IsShort}
use Rattle.table_terms.specs.declared.outcome.Outcome.{Outcome}
use Rattle.table_terms.specs.declared.outcome.Outcome.TheVariants as outcomes
use Rattle.shared_tables.specs.declared.tally.Tally.{Tally}
use Rattle.shared_tables.specs.Journal.{AnsweredData, EntryData, is_write, line_of, own, replay}
use Rattle.shared_tables.specs.Kept.{IsKept, idle}
use Rattle.shared_tables.specs.Call.{TrackTold}
use Rattle.shared_tables.proofs.Kept.{kept_write}

dropped : (xs ys : List ℕ) → drop (length xs) (xs ++ ys) ≡ ys
dropped [] ys = refl
dropped (x ∷ xs) ys = dropped xs ys

-- how the line that was told begins
pub line_kept : (told_before told text kept : List ℕ) (start : ℕ) → start ≡ length told_before → told ≡ told_before ++ text → kept ≡ take 256 (drop start told) → kept ≡ take 256 text
line_kept told_before told text kept start at is e = e ∙ (λ i. take 256 (drop (at i) (is i))) ∙ ap (take 256) (dropped told_before text)

-- a line that is not longer is kept whole
pub whole_line : (told_before told text : List ℕ) → told ≡ told_before ++ text → length told ≤ length told_before + 256 → take 256 text ≡ text
whole_line told_before told text is short =
    let whole : length told ≡ length (told_before ++ text) = ap length is in
    let few : length text ≤ 256 = omega (arith, length-append told_before text) in
    take_all 256 text few

pub default_any : (tallies : List Tally) (session : ℕ) (tally : Tally) → session < length tallies → tally ≡ slice_index_or tallies session tally → tally ≡ slice_index_or tallies session idle
default_any tallies session tally h e = e ∙ get_or_default tallies session tally idle h

write_of : (o : Outcome) → o ≡ outcomes.Write → is_write o ≡ true
write_of outcomes.Write e = refl
write_of outcomes.Read e = cc
write_of outcomes.Refusal e = cc
write_of outcomes.Memory e = cc

-- the invariant after an accepted write
pub kept_after : (shape : TableShape) (t t' : TableState) (journal journal' before : List EntryData) (tallies : List Tally) (session : ℕ) (command : Command)
    (tally : Tally) (number : ℕ) (told_before told answer : List ℕ)
    → IsKept shape t journal tallies → session < length tallies → tally ≡ slice_index_or tallies session tally
    → Took outcomes.Write told_before told t' (step_of t command) → length told ≤ length told_before + 256
    → answer ≡ take 256 (line_of (step_of t command))
    → before ≡ journal → number ≡ length before
    → journal' ≡ before ++ record { session = session; serial = tally.count + 1; command = command; answer = answer } ∷ []
    → IsKept shape t' journal' (slice_set tallies session (record { count = tally.count + 1; last = number + 1 }))
kept_after shape t t' journal journal' before tallies session command tally number told_before told answer kept within found took short same items len is =
    let whole : answer ≡ line_of (step_of t command) = same ∙ whole_line told_before told (line_of (step_of t command)) took.line short in
    let there : tally ≡ slice_index_or tallies session idle = default_any tallies session tally within found in
    let last : number ≡ length journal = len ∙ ap length items in
    rw (is, items, there, last, whole) (kept_write shape t t' journal tallies session command (line_of (step_of t command)) kept within (write_of (step_of t command).outcome took.kind) took.table refl)

-- what an accepted write told
pub told_write : (shape : TableShape) (workers : ℕ) (t t' : TableState) (journal journal' before : List EntryData) (tallies : List Tally) (session : ℕ) (command : Command)
    (writes writes' kept_writes : List AnsweredData) (seen : ℕ) (look : Option AnsweredData)
    (tally : Tally) (number : ℕ) (told_before told answer answer' : List ℕ)
    → IsKept shape t journal tallies → session < length tallies → tally ≡ slice_index_or tallies session tally
    → Took outcomes.Write told_before told t' (step_of t command) → length told ≤ length told_before + 256
    → answer ≡ take 256 (line_of (step_of t command)) → answer' ≡ take 256 (line_of (step_of t command))
    → before ≡ journal → number ≡ length before
    → journal' ≡ before ++ record { session = session; serial = tally.count + 1; command = command; answer = answer } ∷ []
    → kept_writes ≡ writes
    → writes' ≡ kept_writes ++ record { number = number + 1; command = command; answer = answer' } ∷ []
    → TrackTold (record { shape = shape; workers = workers; journal = journal }) session (record { writes = writes; seen = seen; look = look }) command
    told_before told
    (record { shape = shape; workers = workers; journal = journal' }) (record { writes = writes'; seen = number + 1; look = look })
told_write shape workers t t' journal journal' before tallies session command writes writes' kept_writes seen look tally number told_before told answer answer'
    kept within found took short same same' items len journal_is kept_is writes_is =
    let at : step_of t command ≡ step_of (replay shape journal) command = ap (λ v. step_of v command) kept.replays in
    let write : is_write (step_of (replay shape journal) command).outcome ≡ true = ap (λ v. is_write v.outcome) (sym at) ∙ write_of (step_of t command).outcome took.kind in
    let line : line_of (step_of t command) ≡ line_of (step_of (replay shape journal) command) = ap (λ v. line_of v) at in
    let all : take 256 (line_of (step_of t command)) ≡ line_of (step_of t command) = whole_line told_before told (line_of (step_of t command)) took.line short in
    let whole : answer ≡ line_of (step_of (replay shape journal) command) = same ∙ all ∙ line in
    let whole' : answer' ≡ line_of (step_of (replay shape journal) command) = same' ∙ all ∙ line in
    let count : tally.count ≡ length (own session journal) = ap (λ v. v.count) (default_any tallies session tally within found) ∙ (kept.counted session within).count in
    let last : number ≡ length journal = len ∙ ap length items in (
      line_of (step_of t command),
      took.line,
      inr (
        line,
        rw (journal_is, items, count, whole, write) refl,
        rw (writes_is, kept_is, last, whole', write) refl,
      ),
    )

-- the invariant where the table did not change
pub kept_same : (shape : TableShape) (t t' : TableState) (journal before : List EntryData) (tallies : List Tally)
    → IsKept shape t journal tallies → before ≡ journal → t' ≡ t → IsKept shape t' before tallies
kept_same shape t t' journal before tallies kept items same = rw (items, same) kept

-- what is neither a write nor a refused growth was read
pub was_read : (o : Outcome) (told_before told : List ℕ) (old new : TableState) (step : Step) → Steps o told_before told old new step
    → (o ≡ outcomes.Memory → ⊥) → (o ≡ outcomes.Write → ⊥) → (is_write step.outcome ≡ false) × (told ≡ told_before ++ line_of step)
was_read outcomes.Memory told_before told old new step h m w = absurd (m refl)
was_read outcomes.Write told_before told old new step h m w = absurd (w refl)
was_read outcomes.Read told_before told old new step h m w = (ap is_write h.kind, h.line)
was_read outcomes.Refusal told_before told old new step h m w = (ap is_write h.kind, h.line)

-- a write took its step, and its line is short
pub was_write : (o : Outcome) (told_before told : List ℕ) (old new : TableState) (step : Step) → Steps o told_before told old new step → IsShort o told_before told
    → o ≡ outcomes.Write → Took outcomes.Write told_before told new step × (length told ≤ length told_before + 256)
was_write outcomes.Write told_before told old new step h short w = (h, short)
was_write outcomes.Memory told_before told old new step h short w = cc
was_write outcomes.Read told_before told old new step h short w = cc
was_write outcomes.Refusal told_before told old new step h short w = cc

-- what is no refused growth was told
pub was_told : (o : Outcome) (told_before told : List ℕ) (old new : TableState) (step : Step) → Steps o told_before told old new step
    → (o ≡ outcomes.Memory → ⊥) → told ≡ told_before ++ line_of step
was_told outcomes.Memory told_before told old new step h m = absurd (m refl)
was_told outcomes.Write told_before told old new step h m = h.line
was_told outcomes.Read told_before told old new step h m = h.line
was_told outcomes.Refusal told_before told old new step h m = h.line

-- what was told of a read, or of a refusal
pub told_read : (shape : TableShape) (workers : ℕ) (t : TableState) (journal before : List EntryData) (tallies : List Tally) (session : ℕ) (command : Command)
    (writes kept_writes : List AnsweredData) (seen : ℕ) (look : Option AnsweredData) (number : ℕ) (told_before told answer : List ℕ)
    → IsKept shape t journal tallies
    → is_write (step_of t command).outcome ≡ false → told ≡ told_before ++ line_of (step_of t command)
    → answer ≡ take 256 (line_of (step_of t command))
    → before ≡ journal → number ≡ length before → kept_writes ≡ writes
    → TrackTold (record { shape = shape; workers = workers; journal = journal }) session (record { writes = writes; seen = seen; look = look }) command
    told_before told
    (record { shape = shape; workers = workers; journal = before })
    (record { writes = kept_writes; seen = number; look = Some (record { number = number; command = command; answer = answer }) })
told_read shape workers t journal before tallies session command writes kept_writes seen look number told_before told answer kept read told_is same items len kept_is =
    let at : step_of t command ≡ step_of (replay shape journal) command = ap (λ v. step_of v command) kept.replays in
    let no_write : is_write (step_of (replay shape journal) command).outcome ≡ false = ap (λ v. is_write v.outcome) (sym at) ∙ read in
    let line : line_of (step_of t command) ≡ line_of (step_of (replay shape journal) command) = ap (λ v. line_of v) at in
    let begun : answer ≡ take 256 (line_of (step_of (replay shape journal) command)) = same ∙ ap (take 256) line in
    let last : number ≡ length journal = len ∙ ap length items in (
      line_of (step_of t command),
      told_is,
      inr (
        line,
        rw (items, no_write) refl,
        rw (kept_is, last, begun, no_write) refl,
      ),
    )
