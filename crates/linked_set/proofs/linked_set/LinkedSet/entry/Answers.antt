use Rattle.std.proofs.Common.{◌≡◌, ◌<◌, ◌≤◌, ◌^◌, ◌∙◌, ap, sym, subst, arith, length}
use Rattle.container_model.specs.declared.handle.Entry.{Entry}
use Rattle.container_model.specs.Insert.{free_slot}
use Rattle.index_set.specs.Set.{store_of, contents}
use Rattle.linked_set.specs.Linked.{entries_in}
use Rattle.linked_set.proofs.FreeSlots.{free_slot-le-length}
use Rattle.linked_set.proofs.LeadsTo.{free_slot-is_first_free}
use Rattle.linked_set.proofs.linked_set.LinkedSet.entry.Goals as goal

pub overflow_cast-slot : goal.overflow_cast-slot
overflow_cast-slot g c =
    let linked = c.self.invariant.linked in
    let entries = entries_in (contents c.self.inside.set) in
    let slot : c.least_free-slot.result ≡ free_slot entries = c.least_free-slot.ensures ∙ sym (free_slot-is_first_free (store_of c.self.inside.set) c.self.inside.slots.items linked.sound.nodes linked.leads) in
    let few : free_slot entries ≤ length entries = free_slot-le-length entries in
    let narrow : length entries < 2 ^ 32 = subst (λ r. length r.entries < 2 ^ 32) (sym c.self.view_is) c.requires in
    omega (arith, slot, few, narrow)

pub returns : goal.returns
returns g c =
    let linked = c.self.invariant.linked in
    let entries = entries_in (contents c.self.inside.set) in
    let slot : c.least_free-slot.result ≡ free_slot entries = c.least_free-slot.ensures ∙ sym (free_slot-is_first_free (store_of c.self.inside.set) c.self.inside.slots.items linked.sound.nodes linked.leads) in
    let make : _ → Entry _ = λ k. record { handle = record { slot = k; stamp = c.args.stamp }; row = c.args.row } in
    ap make (slot ∙ ap (λ r. free_slot r.entries) c.self.view_is)
