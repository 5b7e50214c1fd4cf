use Rattle.std.proofs.Common.{None, ap, subst, ◌≡◌, ◌∙◌}
use Rattle.std.specs.List.{AllByRecursion}
use Rattle.std.proofs.lemmas.Result.{err_from_is_err_and}
use Rattle.container_model.specs.declared.handle.Entry.{Entry}
use Rattle.table_alter.specs.Sources.{first_unheld, sources_of}
use Rattle.table_alter.proofs.Pieces.{unheld_why}
use Rattle.table_terms.specs.Table.{Cells}
use Rattle.table_alter.proofs.altering.fitting_entries.Goals as goal

pub returns-in_err-entries-clause-why : goal.returns-in_err-entries-clause-why
returns-in_err-entries-clause-why c =
    let t = c.args.table.now in
    let after = c.args.after.now in
    let before : c.columns-before.result.now ≡ t.shape.columns = c.columns-before.ensures.value ∙ ap (λ s. s.columns) (c.spec.ensures ∙ ap (λ s. s.shape) c.records.ensures) in
    let columns : c.columns.result.now ≡ after.columns = c.columns.ensures.value in
    let sources = c.deref.ensures.value ∙ (c.in_ok-sources.ensures ∙ (ap (λ cs. sources_of cs c.args.fills.now c.columns.result.now) before ∙ ap (sources_of t.shape.columns c.args.fills.now) columns)) in
    let p = err_from_is_err_and c.from_residual-in_err-entries.result c.from_residual-in_err-entries.ensures.1 in rw (p.1, p.2)
    (unheld_why t after c.args.fills.now c.columns-2.result.now c.deref.result.now c.columns-2.ensures.value sources _ c.in_err-entries.ensures.why)

pub returns-clause-held : goal.returns-clause-held
returns-clause-held c =
    subst (λ cs. AllByRecursion (λ (e : Entry Cells). first_unheld cs e.row ≡ None) c.in_ok-entries.entries.items) c.columns-2.ensures.value c.in_ok-entries.ensures.held
