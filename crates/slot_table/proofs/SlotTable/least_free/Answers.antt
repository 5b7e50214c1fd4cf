use Rattle.std.proofs.Common.{refl, ap, sym, ◌∙◌, arith}
use Rattle.slot_table.specs.Slots.{first_free}
use Rattle.slot_table.proofs.Noted.{peeked, nothing_noted, nothing_in}
use Rattle.slot_table.proofs.SlotTable.least_free.Goals as goal

pub returns-in-Some : goal.returns-in-Some
returns-in-Some g c =
    let some = c.in-Some.ensures.variant.0 refl in
    let n = c.self.inside.free.data.ok.0 in
    (peeked _ _ _ c.self.invariant c.in-Some.least.now (omega arith) c.in-Some.ensures.lookup (c.in-Some.ensures.greatest c.self.invariant.heap_order)).least
    ∙ ap (λ v. first_free v.items) c.self.view_is

pub returns-in-None : goal.returns-in-None
returns-in-None g c =
    let n = c.self.inside.free.data.ok.0 in
    let k = c.self.inside.items.ok.0 in
    let none = nothing_in _ c.in-None.ensures.variant.1 in
    let least = nothing_noted _ _ _ c.self.invariant (omega arith) in
    c.len.ensures ∙ (k ∙ (sym least ∙ ap (λ v. first_free v.items) c.self.view_is))
