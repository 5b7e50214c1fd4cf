use Rattle.std.proofs.Common.{Some, ap, ◌∙◌, arith}
use Rattle.slot_table.specs.Slots.{with_item}
use Rattle.slot_table.proofs.Gaps.{with_item-set, with_item-push}
use Rattle.slot_table.proofs.Filling.{with_item-padded}
use Rattle.slot_table.proofs.restore.put.Goals as goal

pub loop-items-preserved : goal.loop-items-preserved
loop-items-preserved g c =
    let n = c.loop-items.items.ok.0 in
    record {
      same = ap (λ l. with_item l c.args.slot (Some c.args.item)) c.in_ok-push.ensures.items
          ∙ (with_item-padded c.loop-items.items.items c.args.slot (Some c.args.item) (omega (arith, c.loop-items-test.true, c.len.ensures)) ∙ c.loop-items.invariant.same);
    }

pub returns-in_ok-push-2 : goal.returns-in_ok-push-2
returns-in_ok-push-2 g c =
    let n = c.loop-items.items.ok.0 in
    c.in_ok-push-2.ensures.items
    ∙ (with_item-push c.loop-items.items.items (Some c.args.item)
    ∙ (ap (λ k. with_item c.loop-items.items.items k (Some c.args.item)) (omega (arith, c.if-slot-len.true, c.len-2.ensures)) ∙ c.loop-items.invariant.same))

pub returns-else-slot-len : goal.returns-else-slot-len
returns-else-slot-len g c =
    let n = c.loop-items.items.ok.0 in
    with_item-set c.loop-items.items.items c.args.slot (Some c.args.item) (omega (arith, c.if-slot-len.false, c.loop-items-test.false, c.len.ensures, c.len-2.ensures)) ∙ c.loop-items.invariant.same
