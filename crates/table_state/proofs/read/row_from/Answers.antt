use Rattle.std.proofs.Common.{◌≡◌, ◌+◌, ◌≤◌, ◌∷◌, [], ◌++◌, Some, length, sym, ap, ap₂, subst, ◌∙◌, arith}
use Rattle.std.specs.List.{zip}
use Rattle.std.proofs.lemmas.List.{length_push}
use Rattle.table_schema.proofs.Readings.{Read}
use Rattle.table_terms.specs.Values.{cell_for}
use Rattle.table_state.proofs.Rows.{cell_of_pair, row_all, row_more, row_none}
use Rattle.table_state.proofs.read.row_from.Goals as goal

pub returns-in_default : goal.returns-in_default
returns-in_default c =
    let columns = c.args.columns.now in
    let values = c.args.values.now in
    let same : length values ≡ length columns = omega arith in
    row_none columns values same c.loop-place.place c.loop-place.cells.items c.loop-place.invariant.read c.index-columns-place.result c.index-values-place.result c.loop-place-test.true
    (ap₂ cell_for (sym c.index-columns-place.is) (sym c.index-values-place.is) ∙ sym c.in_default.ensures)

pub loop-place-preserved : goal.loop-place-preserved
loop-place-preserved c =
    let columns = c.args.columns.now in
    let values = c.args.values.now in
    let done = c.loop-place.cells.items in
    let same : length values ≡ length columns = omega arith in
    let items = c.in_ok-push.ensures.items ∙ ap (λ x. done ++ x ∷ []) c.in_ok-copy.ensures in
    let more = row_more columns values same c.loop-place.place done c.loop-place.invariant.read c.index-columns-place.result c.index-values-place.result c.loop-place-test.true c.in-Some.cell.now
    (ap₂ cell_for (sym c.index-columns-place.is) (sym c.index-values-place.is) ∙ sym c.in-Some.ensures) in
    record {
      read = subst (λ xs. Read cell_of_pair (zip columns values) (c.loop-place.place + 1) xs) (sym items) more;
      count = ap length items ∙ length_push done c.in-Some.cell.now ∙ ap (λ n. n + 1) c.loop-place.invariant.count;
    }

pub returns : goal.returns
returns c =
    let values = c.args.values.now in
    let same : length values ≡ length c.args.columns.now = omega arith in
    let all : length values ≤ c.loop-place.place = omega arith in
    ap Some c.new.ensures ∙ row_all c.args.columns.now values same c.loop-place.place c.loop-place.cells.items c.loop-place.invariant.read all
