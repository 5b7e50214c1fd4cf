-- What a read finds, and when a step tells it.
use Rattle.std.specs.Prelude.{◌≡◌, ◌⊎◌, ⊤, true, List, Result, Ok, Err, is_some}
use Rattle.std.specs.List.{AllByRecursion}
use Rattle.container_model.specs.declared.handle.Handle.{Handle}
use Rattle.container_model.specs.declared.refusal.Why.TheVariants as whys
use Rattle.container_model.specs.Find.{is_live}
use Rattle.container_model.specs.State.{IsState}
use Rattle.key_extract.specs.Keys.{key_at}
use Rattle.table_reply.specs.Answer.{counted, found, listed_of, shown}
use Rattle.table_reads.specs.declared.found.Found.{Found}
use Rattle.table_reads.specs.declared.found.Found.TheVariants as founds
use Rattle.table_reads.specs.declared.found.Refusal.{Refusal}
use Rattle.table_reads.specs.declared.found.Refusal.TheVariants as refusals
use Rattle.table_reads.specs.Reads.{show_handles}
use Rattle.table_records.specs.Headings.{headings_of}
use Rattle.table_terms.specs.Step.{Step, refused, refused_by, told}
use Rattle.table_terms.specs.Table.{TableState, row_order}

-- the handles name records of the table
abbrev pub AreLive : TableState → List Handle → Type 0
AreLive t handles = IsState (λ keys index. is_some (key_at keys index)) row_order t.records → AllByRecursion (λ h. is_live t.records h ≡ true) handles

-- what was found is in the table
abbrev pub IsIn : TableState → Found → Type 0
IsIn t (founds.Number n) = ⊤
IsIn t (founds.Position h) = ⊤
IsIn t (founds.Record r) = ⊤
IsIn t (founds.Records handles) = AreLive t handles.items

-- the step that tells what was found
abbrev pub told_by : TableState → Found → Step
told_by t (founds.Number n) = told t (counted t.records.writes n)
told_by t (founds.Position h) = told t (found t.records.writes h)
told_by t (founds.Record r) = told t (shown t.records.writes (listed_of (headings_of t.shape.columns) r))
told_by t (founds.Records handles) = show_handles t handles.items

-- the step tells what was found, or refuses for this reason; for want of memory any step may be refused
abbrev pub Reads : TableState → Result Found Refusal → Step → Type 0
Reads t (Ok it) step = IsIn t it × (step ≡ told_by t it)
Reads t (Err (refusals.Fault fault)) step = step ≡ refused t fault
Reads t (Err (refusals.Why why)) step = (step ≡ refused_by t why) ⊎ (why ≡ whys.Memory)
