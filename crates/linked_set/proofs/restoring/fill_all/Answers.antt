use Rattle.std.proofs.Common.{map, [], sym, ap, ◌∙◌, arith}
use Rattle.std.proofs.lemmas.List.{length-map, get_or-map}
use Rattle.linked_set.proofs.Restored.{filled_one, filled_lists, filled_indices, misfit_next}
use Rattle.linked_set.proofs.restoring.fill_all.Goals as goal

pub loop-index-preserved : goal.loop-index-preserved
loop-index-preserved g c =
    let orders = c.args.orders.now in
    let e = c.in-Ok.ensures in
    let one = length-map orders (λ order. order.items) ∙ c.requires.one_each in
    filled_one c.args.slots.now.items c.args.set c.loop-index.set (map (λ order. order.items) orders) c.loop-index.index c.loop-index.invariant one c.in-Ok.made c.deref.result.now
    (omega (arith, c.loop-index-test.true, length-map orders (λ order. order.items)))
    (c.deref.ensures.value ∙ (ap (λ order. order.items) c.index-orders-index.is ∙ sym (get_or-map (λ order. order.items) orders c.loop-index.index c.index-orders-index.result [] c.loop-index-test.true)))
    e.linked e.same e.contents e.lists e.fits

pub returns-clause-lists : goal.returns-clause-lists
returns-clause-lists g c =
    let orders = c.args.orders.now in
    filled_lists c.args.slots.now.items c.args.set c.loop-index.set (map (λ order. order.items) orders) c.loop-index.index c.loop-index.invariant (length-map orders (λ order. order.items) ∙ c.requires.one_each)
    (omega (arith, c.loop-index-test.false, length-map orders (λ order. order.items)))

pub returns-clause-fits : goal.returns-clause-fits
returns-clause-fits g c =
    let orders = c.args.orders.now in
    filled_indices c.args.slots.now.items c.args.set c.loop-index.set (map (λ order. order.items) orders) c.loop-index.index c.loop-index.invariant (length-map orders (λ order. order.items) ∙ c.requires.one_each)
    (omega (arith, c.loop-index-test.false, length-map orders (λ order. order.items)))

pub returns-in-Err-clause-cause : goal.returns-in-Err-clause-cause
returns-in-Err-clause-cause g c =
    let orders = c.args.orders.now in
    let one = length-map orders (λ order. order.items) ∙ c.requires.one_each in
    let listed = c.deref.ensures.value ∙ (ap (λ order. order.items) c.index-orders-index.is ∙ sym (get_or-map (λ order. order.items) orders c.loop-index.index c.index-orders-index.result [] c.loop-index-test.true)) in
    rw c.told.ensures
    (misfit_next c.args.slots.now.items c.args.set c.loop-index.set (map (λ order. order.items) orders) c.loop-index.index c.loop-index.invariant one c.deref.result.now c.in-Err.why (omega (arith, c.loop-index-test.true, length-map orders (λ order. order.items))) listed c.in-Err.ensures.cause)
