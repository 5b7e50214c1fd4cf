use Rattle.std.proofs.Common.{ap, sym, ◌∙◌, Some, arith}
use Rattle.slot_table.specs.Slots.{first_free, with_item}
use Rattle.slot_table.proofs.Noted.{popped, noted_taken, nothing_noted, pushed_at_end, room_at_end, noted_pushed, nothing_in}
use Rattle.slot_table.proofs.Gaps.{with_item-set}
use Rattle.slot_table.proofs.SlotTable.take.Goals as goal

pub index_mut-requires : goal.index_mut-requires
index_mut-requires g c =
    let p = popped _ _ _ c.self.invariant c.in-Some.least _ c.in-Some.ensures.permutation (c.in-Some.ensures.heap_order c.self.invariant.heap_order).1 in
    let n = c.self.inside.items.ok.0 in
    omega (arith, p.within)

pub invariant_of-self : goal.invariant_of-self
invariant_of-self g c =
    let p = popped _ _ _ c.self.invariant c.in-Some.least _ c.in-Some.ensures.permutation (c.in-Some.ensures.heap_order c.self.invariant.heap_order).1 in
    noted_taken _ _ _ c.self.invariant c.in-Some.least _ c.args.item _ c.in-Some.ensures.permutation p (c.in-Some.ensures.heap_order c.self.invariant.heap_order).0 (omega (arith, c.in-Some.ensures.capacity))

pub returns-in-Some-clause-slot : goal.returns-in-Some-clause-slot
returns-in-Some-clause-slot g c =
    let p = popped _ _ _ c.self.invariant c.in-Some.least _ c.in-Some.ensures.permutation (c.in-Some.ensures.heap_order c.self.invariant.heap_order).1 in
    p.least ∙ ap (λ v. first_free v.items) c.self.view_is

pub returns-in-Some-clause-items : goal.returns-in-Some-clause-items
returns-in-Some-clause-items g c =
    let p = popped _ _ _ c.self.invariant c.in-Some.least _ c.in-Some.ensures.permutation (c.in-Some.ensures.heap_order c.self.invariant.heap_order).1 in
    with_item-set _ _ _ p.within
    ∙ (ap (λ slot. with_item c.self.inside.items.items slot (Some c.args.item)) p.least
    ∙ ap (λ v. with_item v.items (first_free v.items) (Some c.args.item)) c.self.view_is)

pub unwrap-requires : goal.unwrap-requires
unwrap-requires g c =
    let n = c.self.inside.free.data.ok.0 in
    let k = c.self.inside.items.ok.0 in
    let none = nothing_in _ c.in-None.ensures.variant.1 in
    let room = room_at_end _ _ _ c.self.invariant _ _ c.self.view_is c.requires (omega arith) in
    c.push.ensures.succeeds (omega arith)

pub invariant_of-self-in-None : goal.invariant_of-self-in-None
invariant_of-self-in-None g c =
    let n = c.self.inside.free.data.ok.0 in
    let none = nothing_in _ c.in-None.ensures.variant.1 in
    let room = room_at_end _ _ _ c.self.invariant _ _ c.self.view_is c.requires (omega arith) in
    let pushed = rw c.unwrap.ensures at c.push.ensures.items in
    rw pushed (noted_pushed _ _ _ c.self.invariant _ c.args.item _ c.in-None.ensures.unchanged.0 (omega arith) (omega (arith, c.in-None.ensures.capacity, c.pop.ensures.capacity)))

pub returns-in-None-clause-slot : goal.returns-in-None-clause-slot
returns-in-None-clause-slot g c =
    let n = c.self.inside.free.data.ok.0 in
    let k = c.self.inside.items.ok.0 in
    let none = nothing_in _ c.in-None.ensures.variant.1 in
    let least = nothing_noted _ _ _ c.self.invariant (omega arith) in
    c.len-slot.ensures ∙ (k ∙ (sym least ∙ ap (λ v. first_free v.items) c.self.view_is))

pub returns-in-None-clause-items : goal.returns-in-None-clause-items
returns-in-None-clause-items g c =
    let n = c.self.inside.free.data.ok.0 in
    let none = nothing_in _ c.in-None.ensures.variant.1 in
    let pushed = rw c.unwrap.ensures at c.push.ensures.items in
    pushed
    ∙ (pushed_at_end _ _ _ c.self.invariant (Some c.args.item) (omega arith)
    ∙ ap (λ v. with_item v.items (first_free v.items) (Some c.args.item)) c.self.view_is)
