use Rattle.std.proofs.Common.{◌++◌, ap, ◌∙◌, drop, map, take}
use Rattle.std.specs.Prelude.{slice_set}
use Rattle.tables_c.specs.Cells.{cell_told}
use Rattle.tables_c.proofs.Spelled.{put_next}
use Rattle.tables_c.proofs.cells.write_cells.Goals as goal

pub loop-place-preserved : goal.loop-place-preserved
loop-place-preserved c =
    let row = c.args.row.now in
    let old = c.args.cells.now in
    let i = c.loop-place.place in
    ap (λ cells. slice_set cells i c.cell_told.result) c.loop-place.invariant
    ∙ ap (λ cell. slice_set (map cell_told (take i row) ++ drop i old) i cell) (c.cell_told.ensures ∙ ap cell_told c.index-row-place.is)
    ∙ put_next row old i c.index-row-place.result c.loop-place-test.true c.requires
