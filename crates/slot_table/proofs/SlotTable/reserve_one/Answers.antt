use Rattle.std.proofs.Common.{arith}
use Rattle.std.proofs.lemmas.Result.{on_ok_weaker, on_err_weaker, err_from_is_err_and}
use Rattle.slot_table.proofs.Laws.{first_free-le-length}
use Rattle.slot_table.proofs.Noted.{room_by_note, room_at_end, some_by_test, none_by_test}
use Rattle.slot_table.proofs.SlotTable.reserve_one.Goals as goal

pub returns-then-not-is_empty-clause-room : goal.returns-then-not-is_empty-clause-room
returns-then-not-is_empty-clause-room g c =
    let n = c.self.inside.free.data.ok.0 in
    let k = c.self.inside.items.ok in
    let some = some_by_test _ c.if-not-is_empty.ensures in
    room_by_note _ _ _ c.self.invariant _ _ c.self.view_is (omega arith) (omega arith)

pub returns-in_err-reserve-clause-full : goal.returns-in_err-reserve-clause-full
returns-in_err-reserve-clause-full g c =
    let p = err_from_is_err_and c.from_residual.result c.from_residual.ensures.1 in
    let n = c.self.inside.free.data.ok.0 in
    let k = c.self.inside.items.ok.0 in
    let none = none_by_test _ c.if-not-is_empty.ensures in
    rw p.1 (λ room. let left = room_at_end _ _ _ c.self.invariant _ _ c.self.view_is room (omega arith) in omega (arith, c.in_err-reserve.ensures.full))

pub returns-clause-room : goal.returns-clause-room
returns-clause-room g c =
    let k = c.reserve.new.self.ok.0 in
    let least = first_free-le-length c.reserve.new.self.items in
    on_ok_weaker c.reserve-2.result (λ more. omega (arith, c.in_ok-reserve.ensures.ok)) c.reserve-2.ensures.ok

pub returns-clause-full : goal.returns-clause-full
returns-clause-full g c =
    let n = c.self.inside.free.data.ok.0 in
    let k = c.self.inside.items.ok.0 in
    let none = none_by_test _ c.if-not-is_empty.ensures in
    on_err_weaker c.reserve-2.result (λ full room. let left = room_at_end _ _ _ c.self.invariant _ _ c.self.view_is room (omega arith) in omega arith) c.reserve-2.ensures.full
