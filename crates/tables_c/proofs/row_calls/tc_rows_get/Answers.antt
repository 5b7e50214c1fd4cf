use Rattle.std.proofs.Common.{refl, ap, sym, ◌∙◌}
use Rattle.tables_c.specs.Rows.{get_got}
use Rattle.tables_c.proofs.row_calls.tc_rows_get.Goals as goal

pub returns-in_default : goal.returns-in_default
returns-in_default c = rw (← c.in_default.ensures.taken) (refl, c.in_default.ensures.closed)

pub returns : goal.returns
returns c =
    let got =
    sym c.get_got-status.ensures
    ∙ (ap (λ t. get_got t c.handle.result c.args.cells.now c.args.texts.now) c.deref.ensures
    ∙ ap (λ h. get_got c.in-Some.records.value h c.args.cells.now c.args.texts.now) c.handle.ensures) in
    rw (← c.in-Some.ensures.taken) (got, c.put.ensures)
