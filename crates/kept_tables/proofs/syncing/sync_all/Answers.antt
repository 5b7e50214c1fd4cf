use Rattle.std.proofs.Common.{◌≡◌, length, get_or, refl, ap, arith, Some}
use Rattle.std.specs.Prelude.{slice_get}
use Rattle.std.proofs.lemmas.Option.{slice_get_read}
use Rattle.kept_tables.proofs.Fronts.{front_begins, front_ends, front_more, front_stops}
use Rattle.kept_tables.proofs.syncing.sync_all.Goals as goal

pub loop-place-init : goal.loop-place-init
loop-place-init g c = front_begins c.args.tables.now

pub loop-place-preserved : goal.loop-place-preserved
loop-place-preserved g c =
    let loop = c.loop-place in
    let old = get_or loop.tables loop.place c.index-tables-place.result in
    let is : old ≡ get_or loop.tables loop.place old = ap (get_or loop.tables loop.place) c.index-tables-place.is in
    let at : slice_get loop.tables loop.place ≡ Some old = slice_get_read loop.tables (length loop.tables) loop.place old refl (omega arith) is in
    front_more loop.place c.args.tables.now loop.tables old c.sync_one.new.table loop.invariant (omega (arith, loop.invariant.size)) at c.in-Ok.ensures

pub returns-in-Err : goal.returns-in-Err
returns-in-Err g c =
    let loop = c.loop-place in
    let old = get_or loop.tables loop.place c.index-tables-place.result in
    let is : old ≡ get_or loop.tables loop.place old = ap (get_or loop.tables loop.place) c.index-tables-place.is in
    let at : slice_get loop.tables loop.place ≡ Some old = slice_get_read loop.tables (length loop.tables) loop.place old refl (omega arith) is in
    front_stops loop.place c.args.tables.now loop.tables old c.sync_one.new.table loop.invariant at c.in-Err.ensures

pub returns : goal.returns
returns g c = front_ends c.loop-place.place c.args.tables.now c.loop-place.tables c.loop-place.invariant (omega (arith, c.loop-place-test.false))
