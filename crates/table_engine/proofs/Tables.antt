-- The step of one table among those of all.
use Rattle.std.proofs.Common.{◌≡◌, ℕ, List, true, length, get_or, slice_set, Some, bytes_eq, refl, sym, ap, ◌∙◌, inl, inr}
use Rattle.std.proofs.lemmas.List.{set-get_or}
use Rattle.std.proofs.lemmas.Option.{slice_get_read}
use Rattle.std.proofs.lemmas.List.Quantifiers.{position-Some}
use Rattle.std.proofs.lemmas.Slice.Eq.{bytes_eq-Decides}
use Rattle.table_cmd.specs.declared.command.Command.{Command}
use Rattle.table_terms.specs.declared.outcome.Outcome.{Outcome}
use Rattle.table_terms.specs.declared.outcome.Outcome.TheVariants as outcomes
use Rattle.table_cmd.specs.Command.{table_in}
use Rattle.table_step.specs.Step.{TableState, Step, Steps, Took, step_at, step_of}
use Rattle.table_engine.specs.Tables.{Replies, carried, stepped, table_at}

-- a table that is as before
pub set_same : (tables : List TableState) (place : ℕ) (old new : TableState) → old ≡ get_or tables place old → new ≡ old → slice_set tables place new ≡ tables
set_same tables place old new is same = ap (slice_set tables place) (same ∙ is) ∙ set-get_or tables place old

-- the step's answer and table
took : (o : Outcome) (told_before told : List ℕ) (tables : List TableState) (place : ℕ) (new : TableState) (step : Step) → Took o told_before told new step
    → Replies told_before told tables (slice_set tables place new) (stepped tables place step)
took o told_before told tables place new step h = (_, h.line, inl (refl, ap (slice_set tables place) h.table))

-- a table's step, as what all the tables answer
pub Replies-from_Steps : (o : Outcome) (told_before told : List ℕ) (tables : List TableState) (place : ℕ) (old new : TableState) (step : Step)
    → old ≡ get_or tables place old → Steps o told_before told old new step → Replies told_before told tables (slice_set tables place new) (stepped tables place step)
Replies-from_Steps outcomes.Write told_before told tables place old new step is h = took outcomes.Write told_before told tables place new step h
Replies-from_Steps outcomes.Read told_before told tables place old new step is h = took outcomes.Read told_before told tables place new step h
Replies-from_Steps outcomes.Refusal told_before told tables place old new step is h = took outcomes.Refusal told_before told tables place new step h
Replies-from_Steps outcomes.Memory told_before told tables place old new step is h = (_, h.0, inr (refl, set_same tables place old new is h.1))

-- a command on a table of the name that it has
pub step_of-named : (t : TableState) (command : Command) → bytes_eq t.shape.name (table_in command) ≡ true → step_of t command ≡ step_at t command
unfolding step_of
step_of-named t command named =
    let name = t.shape.name in
    let asked = table_in command in
    let same : bytes_eq asked name ≡ true = (bytes_eq-Decides asked name).1 (sym ((bytes_eq-Decides name asked).0 named)) in
    rw (same) refl

-- the table that the command names
pub carried-at : (tables : List TableState) (command : Command) (place : ℕ) (old : TableState) → table_at tables (table_in command) ≡ Some place → old ≡ get_or tables place old
    → carried tables command ≡ stepped tables place (step_at old command)
carried-at tables command place old at is =
    let found = position-Some _ tables place old at in
    let named : bytes_eq old.shape.name (table_in command) ≡ true = ap (λ (t : TableState). bytes_eq t.shape.name (table_in command)) is ∙ found.1 in
    rw (at, slice_get_read tables (length tables) place old refl found.0 is) (ap (stepped tables place) (step_of-named old command named))
