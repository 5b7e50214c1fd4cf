-- What a command does to a table, and what is told of it.
use Rattle.std.specs.Prelude.{◌≡◌, ◌⊎◌, ℕ, ◌+◌, ◌≤◌, List, length, ◌++◌, Option, Some, None, Result, Ok, Err}
use Rattle.container_model.specs.declared.refusal.Why.{Why}
use Rattle.container_model.specs.declared.refusal.Why.TheVariants as whys
use Rattle.container_model.specs.State.{State}
use Rattle.table_reply.specs.declared.fault.Fault.{Fault}
use Rattle.table_reply.specs.declared.fault.Fault.TheVariants as faults
use Rattle.table_reply.specs.Answer.{Answer, answer_text, banned, clash, fault}
use Rattle.table_terms.specs.declared.outcome.Outcome.{Outcome}
use Rattle.table_terms.specs.declared.outcome.Outcome.TheVariants as outcomes
use Rattle.table_schema.specs.Shape.{TableShape}
use Rattle.table_terms.specs.Table.{Cells, Keys, TableState, index_name, last_index_name}

-- what a command does to a table: the answer, and the table after it
pub record Step : Type 0 where
  pub outcome : Outcome
  pub answer : Answer
  pub table : TableState

abbrev pub refused : TableState → Fault → Step
refused t why = record { outcome = outcomes.Refusal; answer = fault why; table = t }

abbrev pub told : TableState → Answer → Step
told t answer = record { outcome = outcomes.Read; answer = answer; table = t }

-- the step that comes of what was found, or the fault in its place
abbrev pub then_step : {A : Type 0} → TableState → Result A Fault → (A → Step) → Step
then_step t (Ok x) step = step x
then_step t (Err why) step = refused t why

-- what the container's refusal is answered by; a clash is at the last index, which is the new one
abbrev pub refusal_answer : TableState → Why → Answer
refusal_answer t whys.Kind = fault faults.Kind
refusal_answer t whys.Definition = fault faults.Definition
refusal_answer t whys.Stale = fault faults.Handle
refusal_answer t whys.Place = fault faults.Place
refusal_answer t whys.Order = fault faults.Order
refusal_answer t (whys.Banned index by) = banned t.records.writes (index_name t index) by
refusal_answer t (whys.Clash first second) = clash t.records.writes (last_index_name t) first second
refusal_answer t whys.Full = fault faults.Full
refusal_answer t whys.Spent = fault faults.Spent
refusal_answer t whys.Memory = fault faults.Memory

-- a call that the container refuses
abbrev pub refused_by : TableState → Why → Step
refused_by t why = record { outcome = outcomes.Refusal; answer = refusal_answer t why; table = t }

-- a change of the records with its answer, where the container does not refuse it
abbrev pub changed : TableState → Option Why → Answer → State Keys Cells → Step
changed t None answer records = record { outcome = outcomes.Write; answer = answer; table = record t { records = records } }
changed t (Some why) answer records = refused_by t why

-- a change of the indices with its answer and the table that it leaves, where the container does not refuse it; a refusal is
-- told in the names of a declaration
abbrev pub reindexed : TableState → TableShape → Option Why → Answer → TableState → Step
reindexed t names None answer new = record { outcome = outcomes.Write; answer = answer; table = new }
reindexed t names (Some why) answer new = record { outcome = outcomes.Refusal; answer = refusal_answer (record t { shape = names }) why; table = t }

-- the answer where memory is refused
abbrev pub memory_line : List ℕ
memory_line = answer_text (fault faults.Memory)

-- the step's answer was appended, and the step's table left
pub record Took (outcome : Outcome) (told_before told_after : List ℕ) (new : TableState) (step : Step) : Type 0 where
  pub kind : step.outcome ≡ outcome
  pub line : told_after ≡ told_before ++ answer_text step.answer
  pub table : new ≡ step.table

-- what was told and left is the step's, or else the memory line and the table as it was
abbrev pub Steps : Outcome → List ℕ → List ℕ → TableState → TableState → Step → Type 0
Steps outcomes.Memory told_before told_after old new step = (told_after ≡ told_before ++ memory_line) × (new ≡ old)
Steps outcomes.Write told_before told_after old new step = Took outcomes.Write told_before told_after new step
Steps outcomes.Read told_before told_after old new step = Took outcomes.Read told_before told_after new step
Steps outcomes.Refusal told_before told_after old new step = Took outcomes.Refusal told_before told_after new step

-- the answer to a write or a refusal, and the memory line, have at most 256 bytes
abbrev pub IsShort : Outcome → List ℕ → List ℕ → Type 0
IsShort outcomes.Read told_before told_after = Unit {0}
IsShort outcomes.Write told_before told_after = length told_after ≤ length told_before + 256
IsShort outcomes.Refusal told_before told_after = length told_after ≤ length told_before + 256
IsShort outcomes.Memory told_before told_after = length told_after ≤ length told_before + 256

-- the line of the answer was appended, and the outcome is of its kind; or the memory line was
abbrev pub Answers : Outcome → List ℕ → List ℕ → Outcome → Answer → Type 0
Answers outcome told_before told_after kind answer =
    ((outcome ≡ kind) × (told_after ≡ told_before ++ answer_text answer)) ⊎ ((outcome ≡ outcomes.Memory) × (told_after ≡ told_before ++ memory_line))
