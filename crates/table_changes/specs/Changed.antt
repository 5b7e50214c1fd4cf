-- What came of a change, as a value, and the step that it is.
use Rattle.std.specs.Prelude.{◌≡◌, ◌⊎◌, ⊤, Some, Result, Ok, Err}
use Rattle.container_model.specs.declared.refusal.Why.{Why}
use Rattle.container_model.specs.declared.refusal.Why.TheVariants as whys
use Rattle.table_changes.specs.declared.changed.Changed.{Changed}
use Rattle.table_changes.specs.declared.changed.Changed.TheVariants as changes
use Rattle.table_changes.specs.declared.changed.Refusal.{Refusal}
use Rattle.table_changes.specs.declared.changed.Refusal.TheVariants as refusals
use Rattle.table_records.specs.declared.reindex.NotAdded.{NotAdded}
use Rattle.table_records.specs.declared.reindex.NotAdded.TheVariants as not_added
use Rattle.table_reply.specs.Answer.{Answer, after, counted, done, erased, found}
use Rattle.table_reply.specs.declared.fault.Fault.TheVariants as faults
use Rattle.table_schema.specs.declared.define.DefineFault.{DefineFault}
use Rattle.table_schema.specs.declared.define.DefineFault.TheVariants as define_faults
use Rattle.table_schema.specs.Shape.{TableShape}
use Rattle.table_terms.specs.declared.outcome.Outcome.TheVariants as outcomes
use Rattle.table_terms.specs.Step.{Step, refusal_answer, refused, refused_by}
use Rattle.table_terms.specs.Table.{TableState, index_name}

-- what an accepted write is answered by, where it left this table
abbrev pub write_answer : TableState → Changed → Answer
write_answer t changes.Done = done t.records.writes
write_answer t (changes.Inserted h) = found t.records.writes (Some h)
write_answer t (changes.Next next) = after t.records.writes next
write_answer t (changes.Erased number) = counted t.records.writes number
write_answer t (changes.Lost index by) = erased t.records.writes (index_name t index) by

-- the step of an accepted write
abbrev pub written : TableState → Changed → Step
written t what = record { outcome = outcomes.Write; answer = write_answer t what; table = t }

-- a new index that the container refuses; the refusal is told in the names of a declaration
abbrev pub refused_in : TableState → TableShape → Why → Step
refused_in t names why = record { outcome = outcomes.Refusal; answer = refusal_answer (record t { shape = names }) why; table = t }

-- the step is refused so, or memory was refused, as it may be at any step
abbrev pub IsRefused : TableState → Step → Refusal → Type 0
IsRefused t step (refusals.Fault why) = step ≡ refused t why
IsRefused t step (refusals.Container why) = (step ≡ refused_by t why) ⊎ (why ≡ whys.Memory)
IsRefused t step (refusals.Index why names) = (step ≡ refused_in t names why) ⊎ (why ≡ whys.Memory)
IsRefused t step refusals.Memory = ⊤

-- what came of a change is the step's; a refusal leaves the table
abbrev pub Makes : Result Changed Refusal → TableState → TableState → Step → Type 0
Makes (Ok what) old new step = step ≡ written new what
Makes (Err why) old new step = (new ≡ old) × IsRefused old step why

-- ---- the refusals of others

abbrev pub of_definition : DefineFault → Refusal
of_definition define_faults.Definition = refusals.Fault faults.Definition
of_definition define_faults.Memory = refusals.Memory

abbrev pub of_index : NotAdded → Refusal
of_index (not_added.Refused why names) = refusals.Index why names
of_index not_added.Memory = refusals.Memory
