use Rattle.std.proofs.Common.{◌≡◌, ◌<◌, length, arith}
use Rattle.shared_tables.proofs.Tables.{first_more}
use Rattle.shared_tables.proofs.unlocked.are_of.Goals as goal

pub loop-place-preserved : goal.loop-place-preserved
loop-place-preserved c =
    let within : c.loop-place.place < length c.args.cells.now = c.loop-place-test.true in
    let count : length c.args.cells.now ≡ length c.args.specs.now = c.requires in
    let there : c.loop-place.place < length c.args.specs.now = omega arith in
    let same = c.is_of.ensures.same.0 c.if-not-is_of.false in
    first_more c.args.specs.now c.args.workers c.args.cells.now c.loop-place.place c.index-cells-place.result c.index-specs-place.result
    within there c.index-cells-place.is c.index-specs-place.is same.0 same.1 c.is_of.ensures.legal c.loop-place.invariant
