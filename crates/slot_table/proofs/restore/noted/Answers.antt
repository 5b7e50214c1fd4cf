use Rattle.std.proofs.Common.{take, ap, sym, subst, refl, ◌∙◌, ◌+◌, not, arith}
use Rattle.std.specs.BinaryHeap.{heap_items, heap_capacity}
use Rattle.slot_table.proofs.Filling.{AreNoted, noted_next_free, noted_next_taken, all_noted}
use Rattle.slot_table.proofs.restore.noted.Goals.{then-is_none+in_ok-push, else-is_none}
use Rattle.slot_table.proofs.restore.noted.Goals as goal

pub loop-slot-preserved : goal.loop-slot-preserved
loop-slot-preserved g c =
    let inv = c.loop-slot.invariant in
    let items = c.args.items.now in
    elim c.if-is_none.branch [
      | then-is_none+in_ok-push w ↦
          let e = w.in_ok-push.ensures in
          record {
            noted = subst (λ f. AreNoted (take (c.loop-slot.slot + 1) items) (heap_items f)) (sym w.free-is)
                (noted_next_free items c.loop-slot.slot c.index-items-slot.result c.loop-slot-test.true (heap_items c.loop-slot.free) inv.noted (heap_items w.push.new.self) _ refl c.index-items-slot.is (c.is_none.ensures ∙ ap not w.if-is_none.true) e.permutation
                (e.heap_order inv.noted.heap_order));
            room = omega (arith, inv.room, e.capacity, ap heap_capacity w.free-is);
          }
      | else-is_none w ↦ record {
        noted = subst (λ f. AreNoted (take (c.loop-slot.slot + 1) items) (heap_items f)) (sym w.free-is)
            (noted_next_taken items c.loop-slot.slot c.index-items-slot.result c.loop-slot-test.true (heap_items c.loop-slot.free) inv.noted c.index-items-slot.is (c.is_none.ensures ∙ ap not w.if-is_none.false));
        room = omega (arith, inv.room, ap heap_capacity w.free-is);
      }
    ]

pub returns : goal.returns
returns g c =
    all_noted c.args.items.now c.loop-slot.slot (heap_items c.loop-slot.free) (heap_capacity c.loop-slot.free) c.loop-slot-test.false c.loop-slot.invariant.room c.loop-slot.invariant.noted
