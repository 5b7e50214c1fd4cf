use Rattle.std.proofs.Common.{◌≡◌, ◌+◌, false, true, get_or, drop, ap, sym, ◌∙◌}
use Rattle.std.specs.Prelude.{◌&&◌}
use Rattle.tables_c.specs.Cells.{hold_key, part_holds}
use Rattle.tables_c.proofs.Holding.{next_held}
use Rattle.tables_c.proofs.search.hold_key.Goals as goal

pub returns-then-not-part_holds : goal.returns-then-not-part_holds
returns-then-not-part_holds c =
    let columns = c.args.columns.now in
    let parts = c.args.parts.now in
    let cells = c.args.cells.now in
    let i = c.loop-place.place in
    let cell = c.index-cells-place.result in
    let none : part_holds columns parts i (get_or cells i cell) ≡ false = ap (part_holds columns parts i) (sym c.index-cells-place.is) ∙ (sym c.part_holds.ensures ∙ c.if-not-part_holds.true) in
    sym (sym c.loop-place.invariant ∙ (next_held columns parts cells i cell c.loop-place-test.true ∙ ap (λ b. b && hold_key columns (drop (i + 1) parts) (drop (i + 1) cells)) none))

pub loop-place-preserved : goal.loop-place-preserved
loop-place-preserved c =
    let columns = c.args.columns.now in
    let parts = c.args.parts.now in
    let cells = c.args.cells.now in
    let i = c.loop-place.place in
    let cell = c.index-cells-place.result in
    let some : part_holds columns parts i (get_or cells i cell) ≡ true = ap (part_holds columns parts i) (sym c.index-cells-place.is) ∙ (sym c.part_holds.ensures ∙ c.if-not-part_holds.false) in
    sym (ap (λ b. b && hold_key columns (drop (i + 1) parts) (drop (i + 1) cells)) some) ∙ (sym (next_held columns parts cells i cell c.loop-place-test.true) ∙ c.loop-place.invariant)
