use Rattle.std.proofs.Common.{◌≢◌, ap, sym, ◌∙◌, None, arith}
use Rattle.slot_table.specs.Slots.{item_at, with_item}
use Rattle.slot_table.proofs.Noted.{room_to_note, noted_freed}
use Rattle.slot_table.proofs.Gaps.{taken_within, with_item-set}
use Rattle.slot_table.proofs.SlotTable.release.Goals as goal

pub unwrap-requires : goal.unwrap-requires
unwrap-requires g c =
    let n = c.self.inside.free.data.ok.0 in
    let taken : item_at c.self.inside.items.items c.args.slot ≢ None = λ e. c.requires (sym (ap (λ v. item_at v.items c.args.slot) c.self.view_is) ∙ e) in
    let room = room_to_note _ _ _ c.self.invariant c.args.slot taken in
    c.push.ensures.succeeds (omega arith)

pub invariant_of-self : goal.invariant_of-self
invariant_of-self g c =
    let taken : item_at c.self.inside.items.items c.args.slot ≢ None = λ e. c.requires (sym (ap (λ v. item_at v.items c.args.slot) c.self.view_is) ∙ e) in
    let moved = rw c.unwrap.ensures at c.push.ensures.permutation in
    let heap = rw c.unwrap.ensures at c.push.ensures.heap_order in
    noted_freed _ _ _ c.self.invariant _ _ _ taken moved (heap c.self.invariant.heap_order) c.push.ensures.capacity

pub returns-clause-items : goal.returns-clause-items
returns-clause-items g c =
    let taken : item_at c.self.inside.items.items c.args.slot ≢ None = λ e. c.requires (sym (ap (λ v. item_at v.items c.args.slot) c.self.view_is) ∙ e) in
    with_item-set c.self.inside.items.items c.args.slot None (taken_within _ c.args.slot taken) ∙ ap (λ v. with_item v.items c.args.slot None) c.self.view_is
