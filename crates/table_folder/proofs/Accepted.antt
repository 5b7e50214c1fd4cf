-- What an accepted write makes of a table.
use Rattle.std.proofs.Common.{◌≡◌, ℕ, ◌+◌, Bool, true, false, cond, List, Some, Result, Ok, Err, IfOk, refl, sym, subst, ◌∙◌}
use Rattle.std.specs.Prelude.{bytes_eq}
use Rattle.command_lines.specs.Fits.{CommandFits}
use Rattle.command_lines.specs.Meaning.{meaning}
use Rattle.command_lines.specs.declared.fault.CommandFault.{CommandFault}
use Rattle.table_changes.proofs.Kept.{change_keeps}
use Rattle.table_changes.specs.Change.{change_step, is_change}
use Rattle.table_cmd.specs.Command.{table_in}
use Rattle.table_cmd.specs.declared.command.Command.{Command}
use Rattle.table_log.specs.Log.{after_line, after_meaning, if_write}
use Rattle.table_reads.specs.Read.{read_step}
use Rattle.table_reply.specs.declared.fault.Fault.TheVariants as faults
use Rattle.table_schema.specs.Shape.{TableShape}
use Rattle.table_state.proofs.Stays.Reads.{read_same}
use Rattle.table_state.proofs.Stays.Steps.{step_stands}
use Rattle.table_state.specs.Standing.{CanStand}
use Rattle.table_state.specs.Staying.{CanBeSaid}
use Rattle.table_step.specs.Step.{step_at, step_of}
use Rattle.table_terms.specs.Step.{Step, refused}
use Rattle.table_terms.specs.Table.{IsOfSameTable, TableState}
use Rattle.table_terms.specs.declared.outcome.Outcome.{Outcome}
use Rattle.table_terms.specs.declared.outcome.Outcome.TheVariants as outcomes
use Rattle.table_folder.proofs.Counted.{step_counts}

-- It is counted, and leaves a table of the same declaration that can stand.
pub record Advances (t next : TableState) : Type 0 where
  pub number : next.records.writes ≡ t.records.writes + 1
  pub stands : CanStand next
  pub same : (shape : TableShape) → IsOfSameTable t.shape shape → IsOfSameTable next.shape shape

-- ---- the declaration

same_twice : (a b c : TableShape) → IsOfSameTable a b → IsOfSameTable b c → IsOfSameTable a c
same_twice a b c one other = record {
  name = one.name ∙ other.name;
  max = one.max ∙ other.max;
  columns = one.columns ∙ other.columns;
  place = one.place ∙ other.place;
  tables = one.tables ∙ other.tables;
}

module _ (t : TableState) where
  abbrev Same : Step → Type 0
  Same step = IsOfSameTable step.table.shape t.shape

  itself : IsOfSameTable t.shape t.shape
  itself = record { name = refl; max = refl; columns = refl; place = refl; tables = refl }

  either_same : (b : Bool) (one other : Step) → Same one → Same other → Same (cond b one other)
  either_same true one other here there = here
  either_same false one other here there = there

  step_same : (command : Command) → Same (step_of t command)
  unfolding step_of
  step_same command =
      let read : Same (read_step t command) = subst (λ (u : TableState). IsOfSameTable u.shape t.shape) (sym (read_same t command)) itself in
      either_same (bytes_eq (table_in command) t.shape.name) (step_at t command) (refused t faults.Table)
      (either_same (is_change command) (change_step t command) (read_step t command) (change_keeps t command).declared read) itself

-- ---- a line

-- the outcome is a write, which left the table
written : (outcome : Outcome) (u next : TableState) → if_write outcome u ≡ Some next → (outcome ≡ outcomes.Write) × (u ≡ next)
written outcomes.Write u next leaves = (refl, cc)
written outcomes.Read u next leaves = cc
written outcomes.Refusal u next leaves = cc
written outcomes.Memory u next leaves = cc

meaning_advances : (t next : TableState) (r : Result Command CommandFault) → IfOk r CommandFits → CanStand t → after_meaning t r ≡ Some next → Advances t next
meaning_advances t next (Err why) fits stands leaves = cc
meaning_advances t next (Ok command) fits stands leaves =
    let step = step_of t command in
    let write = written step.outcome step.table next leaves in
    subst (λ (u : TableState). Advances t u) write.1
    (record {
      number = step_counts t command write.0;
      stands = step_stands t command fits stands;
      same = λ shape old. same_twice step.table.shape t.shape shape (step_same t command) old;
    })

pub advances : (t next : TableState) (line : List ℕ) → CanBeSaid line → CanStand t → after_line t line ≡ Some next → Advances t next
advances t next line said stands leaves = meaning_advances t next (meaning line) said stands leaves
