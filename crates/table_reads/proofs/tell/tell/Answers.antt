use Rattle.std.proofs.Common.{◌≡◌, Ok, ap, subst, ◌∙◌}
use Rattle.table_reads.specs.declared.found.Found.TheVariants as founds
use Rattle.table_reads.specs.Found.{Reads}
use Rattle.table_reads.specs.Shown.{entries_of, shown_entries}
use Rattle.table_reads.proofs.Told.{steps_listed}
use Rattle.table_reads.proofs.tell.tell.Goals as goal

pub returns-in-Ok-clause-answer : goal.returns-in-Ok-clause-answer
returns-in-Ok-clause-answer c step reads =
    let t = c.args.records.now in
    let handles = c.in-Ok-Records.handles in
    let is : c.args.read ≡ Ok (founds.Records handles) = cc in
    let found : Reads t (Ok (founds.Records handles)) step = subst (λ r. Reads t r step) is reads in
    let shown : shown_entries c.deref-in-Ok-Records.result.now ≡ entries_of t.records.entries handles.items =
    ap shown_entries c.deref-in-Ok-Records.ensures.value ∙ (c.in-Ok.ensures
    ∙ (ap (λ s. entries_of s.entries c.deref.result.now) c.container-container.ensures.value ∙ ap (entries_of t.records.entries) c.deref.ensures.value)) in
    let number = c.writes-at.ensures.number ∙ ap (λ s. s.writes) c.container-container.ensures.value in
    steps_listed c.tell_records.result.what c.args.out.out.now.bytes c.tell_records.result.out.now.bytes t step c.headings-headings.result.now c.deref-in-Ok-Records.result.now handles.items c.writes-at.result
    found.1 c.headings-headings.ensures shown number c.tell_records.ensures.line
