use Rattle.any_index.specs.Keyed.{marks_of}
use Rattle.std.proofs.Common.{◌≡◌, true, false, Option, Some, None, refl, sym, ap, subst, ◌∙◌}
use Rattle.std.specs.Prelude.{is_some}
use Rattle.slot_table.specs.Slots.{item_at}
use Rattle.std.specs.Vec.Iter.{into_iter_items}
use Rattle.linked_set.proofs.Restored.{AreAdded, added_one, slot_taken}
use Rattle.linked_set.proofs.restoring.add_all.Goals as goal

none_there : {A : Type 0} (o : Option A) → is_some o ≡ false → o ≡ None
none_there None e = refl
none_there (Some a) e = cc

no_one_there : {A : Type 0} (o : Option A) → is_some o ≡ true → ((a : A) → o ≡ Some a → ⊥) → ⊥
no_one_there None e f = cc
no_one_there (Some a) e f = f a refl

pub returns-then-is_some-clause-cause : goal.returns-then-is_some-clause-cause
returns-then-is_some-clause-cause g c order specs lists apart =
    let set = c.loop-entry.set in
    let slots = c.loop-entry.slots.items in
    let entry = c.in-Some.entry in
    let lies : c.lying_in.result ≡ item_at slots entry.handle.slot = c.lying_in.ensures ∙ ap (λ l. item_at l entry.handle.slot) c.deref.ensures.value in
    let tested = c.is_some.ensures in
    let is = c.if-is_some.true in
    let some : is_some c.lying_in.result ≡ true = cc in
    let so_far = subst (λ rest. AreAdded g.E.Extract.has_key g.E.Extract.order_of (marks_of g.E.Extract) c.args.set.now set c.args.entries.items rest slots) c.in-Some.ensures.steps.0 c.loop-entry.invariant in
    no_one_there c.lying_in.result some (λ n at. slot_taken c.args.set.now set c.args.entries.items (into_iter_items c.next.new.self) entry slots so_far n (sym lies ∙ at) apart)

pub loop-entry-preserved : goal.loop-entry-preserved
loop-entry-preserved g c =
    let set = c.loop-entry.set in
    let slots = c.loop-entry.slots.items in
    let entry = c.in-Some.entry in
    let lies : c.lying_in.result ≡ item_at slots entry.handle.slot = c.lying_in.ensures ∙ ap (λ l. item_at l entry.handle.slot) c.deref.ensures.value in
    let tested = c.is_some.ensures in
    let is = c.if-is_some.false in
    let none : is_some c.lying_in.result ≡ false = cc in
    let so_far = subst (λ rest. AreAdded g.E.Extract.has_key g.E.Extract.order_of (marks_of g.E.Extract) c.args.set.now set c.args.entries.items rest slots) c.in-Some.ensures.steps.0 c.loop-entry.invariant in
    let a = c.in-Ok.ensures in
    subst (AreAdded g.E.Extract.has_key g.E.Extract.order_of (marks_of g.E.Extract) c.args.set.now c.add.new.self c.args.entries.items (into_iter_items c.next.new.self)) (sym c.in-Ok-put.ensures)
    (added_one c.args.set.now set c.args.entries.items (into_iter_items c.next.new.self) entry slots so_far c.add.new.self c.in-Ok.node (sym lies ∙ none_there c.lying_in.result none) a.filed.sound a.filed.keyed a.same a.lists a.count a.added)
