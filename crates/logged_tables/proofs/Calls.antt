-- What a call on a table tells.
use Rattle.std.proofs.Common.{◌≡◌, inl, inr, ℕ, Bool, true, false, List, [], ◌++◌, not, refl, sym, ap, subst, ◌∙◌, Some, Result, Ok, Err, OnErr, OnOk}
use Rattle.std.proofs.lemmas.List.Quantifiers.{position-Some}
use Rattle.std.proofs.lemmas.Option.{slice_get-get_or}
use Rattle.std.proofs.lemmas.Slice.Eq.{bytes_eq-Decides}
use Rattle.std.specs.Prelude.{MatchBool, bytes_eq, slice_get}
use Rattle.table_changes.specs.Change.{is_change}
use Rattle.table_cmd.specs.Command.{table_in}
use Rattle.table_cmd.specs.declared.command.Command.{Command}
use Rattle.table_reply.specs.Answer.{answer_text}
use Rattle.table_step.specs.Step.{memory_line, step_of}
use Rattle.table_log.specs.Logged.{AppendsAnswer, LogData, Stops, Tells}
use Rattle.logged_tables.specs.Found.{IsFound}
use Rattle.logged_tables.specs.Hears.{HearsAt, HearsCommand, IsOver, place_of}
use Rattle.logged_tables.specs.Standing.{Carries}

pub not-false : (b : Bool) → not b ≡ false → b ≡ true
not-false true e = refl
not-false false e = absurd (cc)

-- the table at the place of a name has that name
pub placed : (names : List (List ℕ)) (name : List ℕ) (place : ℕ) → place_of names name ≡ Some place → slice_get names place ≡ Some name
placed names name place e =
    let k = position-Some (λ other. bytes_eq other name) names place [] e in
    slice_get-get_or names place [] k.0 ∙ ap (λ x. Some x) ((bytes_eq-Decides _ name).0 k.1)

told_by : (b : Bool) (old new : LogData) (command : Command) (before told : List ℕ) → MatchBool b (AppendsAnswer old command before told new) ((new ≡ old) × Tells old command before told)
    → (x : List ℕ) × (told ≡ before ++ x) × MatchBool b (AppendsAnswer old command [] x new) ((new ≡ old) × Tells old command [] x)
told_by true old new command before told h = (h.0, h.1, (h.0, refl, h.2))
told_by false old new command before told (same, inl e) = (memory_line, e, (same, inl refl))
told_by false old new command before told (same, inr e) = (answer_text (step_of old.table command).answer, e, (same, inr refl))

-- what was found at the place of a name has that name
named_so : (names : List (List ℕ)) (name : List ℕ) (place number : ℕ) (log : LogData) → place_of names name ≡ Some place → IsFound names place number log → log.table.shape.name ≡ name
named_so names name place number log at found = let same : Some log.table.shape.name ≡ Some name = sym found.named ∙ placed names name place at in cc

-- a table that was found under its lock tells what a call may tell
pub heard : (names : List (List ℕ)) (place number : ℕ) (old new : LogData) (command : Command) (before told : List ℕ) → place_of names (table_in command) ≡ Some place
    → IsFound names place number old → (old.is_over ≡ false) × Carries old command before told new → (x : List ℕ) × (told ≡ before ++ x) × HearsCommand names command x
heard names place number old new command before told at found h =
    let k = told_by (is_change command) old new command before told h.1 in
    let named = named_so names (table_in command) place number old at found in
    (k.0, k.1, inr (subst (λ p. HearsAt names p command k.0) (sym at) (record { number = number; old = old; new = new; found = found; named = named; works = h.0; carried = k.2 })))

-- the log of a table that was found under its lock is over
pub stops_over : (names : List (List ℕ)) (place number : ℕ) (old new : LogData) (command : Command) → place_of names (table_in command) ≡ Some place → IsFound names place number old
    → Stops old command new → IsOver names command (record { table = place })
stops_over names place number old new command at found stops = record {
  place = at;
  number = number;
  old = old;
  new = new;
  found = found;
  named = named_so names (table_in command) place number old at found;
  stopped = stops;
}

-- what stands on success, where a call succeeded
pub at_ok : {T E P : Type 0} (r : Result T E) (x : T) → r ≡ Ok x → OnOk r P → P
at_ok (Ok y) x e p = p
at_ok (Err why) x e p = cc

pub at_err : {T E P : Type 0} (r : Result T E) (e : E) → r ≡ Err e → OnErr r P → P
at_err (Ok x) e is p = cc
at_err (Err why) e is p = p
