-- The tables that lines leave.
use Rattle.std.proofs.Common.{◌≡◌, ℕ, ◌==◌, ◌≤◌, true, false, List, [], ◌∷◌, ◌++◌, length, take, drop, Some, None, Ok, refl, sym, ap, subst, ◌∙◌, append_assoc, arith}
use Rattle.std.specs.Prelude.{Option, Result, Err, IfOk, is_err, option_and_then, replicate, IsSome, codes}
use Rattle.std.specs.Io.KnownBytes.{append_known}
use Rattle.std.proofs.lemmas.List.{take-append-le, take-append-drop}
use Rattle.std.proofs.lemmas.List.Elements.{recursion_from_All}
use Rattle.command_lines.specs.Fits.{CommandFits}
use Rattle.command_text.specs.Text.{command_text}
use Rattle.command_text.proofs.Law.{command_text_line, meaning-command_text}
use Rattle.table_cmd.specs.declared.command.Command.{Command}
use Rattle.table_engine.specs.Devices.{IsFront}
use Rattle.table_step.specs.Step.{Steps, TableState, Took, step_of}
use Rattle.table_terms.specs.declared.outcome.Outcome.{Outcome}
use Rattle.table_terms.specs.declared.outcome.Outcome.TheVariants as outcomes
use Rattle.table_log.specs.Log.{IsLoaded, IsLog, after_command, after_line, after_lines, after_meaning, begun, if_write, replayed, whole_lines}
use Rattle.table_log.specs.Logged.{log_line}
use Rattle.table_log.specs.Disk.{AppendsAll}
use Rattle.table_log.specs.Crash.{KeepsSynced, MayLeave}
use Rattle.table_log.proofs.Lines.{IsWhole, begun-line, begun-newline, front_lines, keeps, no_newline, whole-line, whole-newline}

more_by : (o : Option TableState) (lines : List (List ℕ)) (line : List ℕ) (u v : TableState)
    → ((t : TableState) → after_lines t lines ≡ Some u → after_line u line ≡ Some v → after_lines t (lines ++ line ∷ []) ≡ Some v)
    → option_and_then (λ next. after_lines next lines) o ≡ Some u → after_line u line ≡ Some v → option_and_then (λ next. after_lines next (lines ++ line ∷ [])) o ≡ Some v
more_by None lines line u v go h e = cc
more_by (Some t) lines line u v go h e = go t h e

last_by : (o : Option TableState) (v : TableState) → o ≡ Some v → option_and_then (λ next. after_lines next []) o ≡ Some v
last_by None v e = cc
last_by (Some t) v e = e

-- one line more
pub after_more : (lines : List (List ℕ)) (line : List ℕ) (t u v : TableState) → after_lines t lines ≡ Some u → after_line u line ≡ Some v → after_lines t (lines ++ line ∷ []) ≡ Some v
after_more [] line t u v h e =
    let same : t ≡ u = cc in
    last_by (after_line t line) v (ap (λ x. after_line x line) same ∙ e)
after_more (l ∷ ls) line t u v h e = more_by (after_line t l) ls line u v (λ x. after_more ls line x u v) h e

first_by : (o : Option TableState) (lines later : List (List ℕ)) (v : TableState)
    → ((t : TableState) → after_lines t (lines ++ later) ≡ Some v → (u : TableState) × (after_lines t lines ≡ Some u))
    → option_and_then (λ next. after_lines next (lines ++ later)) o ≡ Some v → (u : TableState) × (option_and_then (λ next. after_lines next lines) o ≡ Some u)
first_by None lines later v go h = absurd (cc)
first_by (Some t) lines later v go h = go t h

-- the first lines alone
pub after_first : (lines later : List (List ℕ)) (t v : TableState) → after_lines t (lines ++ later) ≡ Some v → (u : TableState) × (after_lines t lines ≡ Some u)
after_first [] later t v h = (t, refl)
after_first (l ∷ ls) later t v h = first_by (after_line t l) ls later v (λ x. after_first ls later x v) h

some_by : (o : Option TableState) → IsSome o → (t : TableState) × (o ≡ Some t)
some_by None h = absurd (cc)
some_by (Some t) h = (t, refl)

-- a front loads
pub replays_front : (start : TableState) (front lost : List ℕ) → IsSome (replayed start (front ++ lost)) → (t : TableState) × (replayed start front ≡ Some t)
replays_front start front lost h =
    let all = some_by (replayed start (front ++ lost)) h in
    let first = front_lines front lost in
    after_first (whole_lines front) first.0 start all.0 (ap (after_lines start) first.1 ∙ all.1)

is_some : (o : Option TableState) (t : TableState) → o ≡ Some t → IsSome o
is_some o t e = rw e refl

pub front_is_some : (start : TableState) (front lost : List ℕ) → IsSome (replayed start (front ++ lost)) → IsSome (replayed start front)
front_is_some start front lost h = let r = replays_front start front lost h in is_some (replayed start front) r.0 r.1

pub log_is_some : (start : TableState) (bytes : List ℕ) (t : TableState) → IsLog start bytes t → IsSome (replayed start bytes)
log_is_some start bytes t h = is_some (replayed start bytes) t h.leaves

-- bytes whose lines are accepted load
pub loads : (start : TableState) (bytes kept : List ℕ) (t : TableState) → IsWhole bytes kept → replayed start bytes ≡ Some t → IsLoaded start bytes kept t
loads start bytes kept t k h =
    record {
      cuts = k.cuts;
      lines = k.lines;
      log = record { whole = k.whole; leaves = ap (after_lines start) k.lines ∙ h };
    }

-- ---- a write's line

pub text_line : (t : TableState) (command : Command) → CommandFits command → after_line t (command_text command) ≡ after_command t command
text_line t command fits = ap (after_meaning t) (meaning-command_text command fits)

-- the log with the line of an accepted write
pub log_more : (start : TableState) (bytes : List ℕ) (t v : TableState) (command : Command) → CommandFits command → IsLog start bytes t → after_command t command ≡ Some v
    → IsLog start (bytes ++ log_line command) v
log_more start bytes t v command fits h e =
    let text = command_text command in
    let none = recursion_from_All (λ b. (b == 10) ≡ false) text (command_text_line command fits) in
    let same : (bytes ++ text) ++ codes "\n" ≡ bytes ++ log_line command = append_assoc bytes text (codes "\n") in
    let lines : whole_lines (bytes ++ log_line command) ≡ whole_lines bytes ++ text ∷ [] =
    ap whole_lines (sym same) ∙ whole-newline (bytes ++ text) 10 refl ∙ (λ i. whole-line text bytes none i ++ (begun-line text bytes none ∙ ap (λ xs. xs ++ text) h.whole) i ∷ []) in
    record {
      whole = ap begun (sym same) ∙ begun-newline (bytes ++ text) 10 refl;
      leaves = ap (after_lines start) lines
          ∙ after_more (whole_lines bytes) text start t v h.leaves (text_line t command fits ∙ e);
    }

-- ---- a crash

pub crash : (start : TableState) (bytes : List ℕ) (synced : ℕ) (left : List ℕ) → IsSome (replayed start bytes) → MayLeave bytes synced left → KeepsSynced start bytes synced left
crash start bytes synced left some h =
    let r = replays_front start h.front h.lost (subst (λ xs. IsSome (replayed start xs)) (sym h.whole) some) in
    let lines : whole_lines left ≡ whole_lines h.front = ap whole_lines h.is_left ∙ whole-line (replicate h.zeros 0) h.front (no_newline h.zeros) in
    let k = keeps left in
    record {
      kept = k.0;
      table = r.0;
      loaded = loads start left k.0 r.0 k.1 (ap (after_lines start) lines ∙ r.1);
      invents_none = subst (λ xs. IsFront xs (whole_lines bytes)) (sym lines)
          (subst (λ xs. IsFront (whole_lines h.front) (whole_lines xs)) h.whole (front_lines h.front h.lost));
      loses_none = λ n within.
          let few : n ≤ length h.front = omega (arith, within, h.has_synced) in
          let first : take n bytes ≡ take n h.front = ap (take n) (sym h.whole) ∙ take-append-le n h.front h.lost few in
          subst (λ xs. IsFront (whole_lines (take n bytes)) xs) (sym lines)
          (subst (λ xs. IsFront (whole_lines xs) (whole_lines h.front)) (sym first)
          (subst (λ xs. IsFront (whole_lines (take n h.front)) (whole_lines xs)) (take-append-drop n h.front) (front_lines (take n h.front) (drop n h.front))));
    }

-- ---- a call

pub write_left : (outcome : Outcome) (told_before told : List ℕ) (t v : TableState) (command : Command) → Steps outcome told_before told t v (step_of t command)
    → outcome ≡ outcomes.Write → after_command t command ≡ Some v
write_left outcome told_before told t v command steps is =
    let step = step_of t command in
    let took : Took outcomes.Write told_before told v step = subst (λ o. Steps o told_before told t v step) is steps in
    ap (λ o. if_write o step.table) took.kind ∙ ap Some (sym took.table)

-- the log after an accepted write whose line was appended
pub stands_more : (start : TableState) (t v : TableState) (old new : Option (List ℕ)) (command : Command) → CommandFits command → after_command t command ≡ Some v
    → ((bytes : List ℕ) → old ≡ Some bytes → IsLog start bytes t) → new ≡ append_known old (log_line command) → (bytes : List ℕ) → new ≡ Some bytes → IsLog start bytes v
stands_more start t v None new command fits e go added bytes is = absurd (cc)
stands_more start t v (Some b) new command fits e go added bytes is =
    let same : b ++ log_line command ≡ bytes = cc in
    subst (λ xs. IsLog start xs v) same (log_more start b t v command fits (go b refl) e)

-- the same of a front of the line
pub loads_front : (start : TableState) (t v : TableState) (old new : Option (List ℕ)) (command : Command) (front : List ℕ) → CommandFits command → after_command t command ≡ Some v
    → ((bytes : List ℕ) → old ≡ Some bytes → IsLog start bytes t) → IsFront front (log_line command) → new ≡ append_known old front
    → (bytes : List ℕ) → new ≡ Some bytes → IsSome (replayed start bytes)
loads_front start t v None new command front fits e go part added bytes is = absurd (cc)
loads_front start t v (Some b) new command front fits e go part added bytes is =
    let same : b ++ front ≡ bytes = cc in
    let whole : (b ++ front) ++ part.0 ≡ b ++ log_line command = append_assoc b front part.0 ∙ ap (λ xs. b ++ xs) part.1 in
    let all = log_is_some start (b ++ log_line command) v (log_more start b t v command fits (go b refl) e) in
    subst (λ xs. IsSome (replayed start xs)) same
    (front_is_some start (b ++ front) part.0 (subst (λ xs. IsSome (replayed start xs)) (sym whole) all))

pub loads_log : (start : TableState) (t : TableState) (bytes : List ℕ) → IsLog start bytes t → IsSome (replayed start bytes)
loads_log start t bytes h = log_is_some start bytes t h

-- ---- results

pub done : {E P : Type 0} (r : Result (Unit {0}) E) → IfOk r (λ x. P) → is_err r ≡ false → P
done (Ok x) p h = p
done (Err e) p h = absurd (cc)

pub append_done : {E : Type 0} (r : Result (Unit {0}) E) (old new : Option (List ℕ)) (bytes : List ℕ) → AppendsAll r old new bytes → is_err r ≡ false → new ≡ append_known old bytes
append_done (Ok x) old new bytes p h = p
append_done (Err e) old new bytes p h = absurd (cc)

pub append_failed : {E : Type 0} (r : Result (Unit {0}) E) (old new : Option (List ℕ)) (bytes : List ℕ) → AppendsAll r old new bytes → is_err r ≡ true
    → (front : List ℕ) × IsFront front bytes × (new ≡ append_known old front)
append_failed (Ok x) old new bytes p h = absurd (cc)
append_failed (Err e) old new bytes p h = p
