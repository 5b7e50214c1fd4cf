-- What the lines of a log leave of a table that can stand can stand.
use Rattle.std.proofs.Common.{ℕ, List, [], ◌∷◌, Option, Some, None, Result, Ok, Err, IfOk, IfSome}
use Rattle.std.specs.Prelude.{option_and_then}
use Rattle.std.specs.List.{AllByRecursion}
use Rattle.command_lines.specs.Fits.{CommandFits}
use Rattle.command_lines.specs.Meaning.{meaning}
use Rattle.command_lines.specs.declared.fault.CommandFault.{CommandFault}
use Rattle.table_cmd.specs.declared.command.Command.{Command}
use Rattle.table_log.specs.Log.{after_line, after_lines, after_meaning, if_write}
use Rattle.table_state.specs.Standing.{CanStand}
use Rattle.table_state.specs.Staying.{CanBeSaid}
use Rattle.table_step.specs.Step.{TableState, step_of}
use Rattle.table_terms.specs.declared.outcome.Outcome.{Outcome}
use Rattle.table_terms.specs.declared.outcome.Outcome.TheVariants as outcomes
use Rattle.table_state.proofs.Stays.Steps.{step_stands}

if_stands : (outcome : Outcome) (t : TableState) → CanStand t → IfSome (if_write outcome t) CanStand
if_stands outcomes.Write t h = h
if_stands outcomes.Read t h = tt
if_stands outcomes.Refusal t h = tt
if_stands outcomes.Memory t h = tt

meaning_stands : (t : TableState) (r : Result Command CommandFault) → IfOk r CommandFits → CanStand t → IfSome (after_meaning t r) CanStand
meaning_stands t (Ok command) fits stands = if_stands (step_of t command).outcome (step_of t command).table (step_stands t command fits stands)
meaning_stands t (Err why) fits stands = tt

pub lines_stand : (lines : List (List ℕ)) (start : TableState) → AllByRecursion CanBeSaid lines → CanStand start → IfSome (after_lines start lines) CanStand
lines_stand [] start said stands = stands
lines_stand (line ∷ lines) start said stands = by (after_line start line) (meaning_stands start (meaning line) said.0 stands) (λ next h. lines_stand lines next said.1 h)
  where
    by : (o : Option TableState) → IfSome o CanStand → ((next : TableState) → CanStand next → IfSome (after_lines next lines) CanStand) → IfSome (option_and_then (λ next. after_lines next lines) o) CanStand
    by None h each = tt
    by (Some next) h each = each next h
