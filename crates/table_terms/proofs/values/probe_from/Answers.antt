use Rattle.std.proofs.Common.{◌≡◌, ◌+◌, ◌∷◌, [], ◌++◌, true, None, length, drop, sym, ap, ◌∙◌, rules}
use Rattle.table_terms.specs.Values.{are_enough, part_cells}
use Rattle.table_terms.proofs.Rows.{after, part_cell, parts_more, parts_none, probe_is}
use Rattle.table_terms.proofs.values.probe_from.Goals as goal

pub returns-in_default : goal.returns-in_default
returns-in_default c =
    let columns = c.args.columns.now in
    let parts = c.parts_of-parts.result.now in
    let values = c.args.values.now in
    let enough : are_enough c.args.index.now (length values) ≡ true = search rules in
    let none = parts_none columns parts values c.loop-place.place c.index-values-place.result c.loop-place.cells.items c.loop-place-test.true (ap (part_cell columns parts c.loop-place.place) (sym c.index-values-place.is) ∙ sym c.in_default.ensures) in
    sym (probe_is columns c.args.index.now values None enough (ap (λ ps. part_cells columns ps values) (sym c.parts_of-parts.ensures) ∙ (sym c.loop-place.invariant ∙ none)))

pub loop-place-preserved : goal.loop-place-preserved
loop-place-preserved c =
    let columns = c.args.columns.now in
    let parts = c.parts_of-parts.result.now in
    let values = c.args.values.now in
    let i = c.loop-place.place in
    let done = c.loop-place.cells.items in
    let more = parts_more columns parts values i c.index-values-place.result done c.loop-place-test.true c.in-Some.cell.now (ap (part_cell columns parts i) (sym c.index-values-place.is) ∙ sym c.in-Some.ensures) in
    ap (λ cells. after cells (part_cells columns (drop (i + 1) parts) (drop (i + 1) values))) (c.in_ok-push.ensures.items ∙ ap (λ x. done ++ x ∷ []) c.in_ok-copy.ensures)
    ∙ (sym more ∙ c.loop-place.invariant)
