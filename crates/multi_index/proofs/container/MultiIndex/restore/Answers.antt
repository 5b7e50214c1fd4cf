use Rattle.std.proofs.Common.{map, ap, subst, ◌∙◌, arith}
use Rattle.linked_set.specs.Restored.{restored}
use Rattle.multi_index.specs.Restored.{AreStamped}
use Rattle.multi_index.proofs.Restored.{IsContainer-restored}
use Rattle.multi_index.proofs.container.MultiIndex.restore.Goals as goal

pub invariant_of-result : goal.invariant_of-result
invariant_of-result g c =
    let saved = c.args.saved in
    let e = c.in-Ok.ensures in
    let count = saved.entries.ok.0 in
    IsContainer-restored g.E.Extract.has_key g.E.Extract.order_of c.in-Ok.set c.args.most c.args.max saved.writes c.args.keys c.args.specs.items saved.entries.items (map (λ order. order.items) c.deref-3.result.now)
    (e.made c.args.max saved.writes) c.requires.keys c.requires.few (omega (arith, c.if-len-max.false, c.len-3.ensures, count))
    (subst (λ es. AreStamped es saved.writes) c.deref.ensures.value (c.are_stamped.ensures.stamped.0 c.if-not-are_stamped.false)) e.apart e.fits e.added c.ranges.max.fits c.are_stamped.ensures.fits

pub returns-in-Ok-clause-made : goal.returns-in-Ok-clause-made
returns-in-Ok-clause-made g c =
    let saved = c.args.saved in
    c.in-Ok.ensures.made c.args.max saved.writes
    ∙ ap (λ orders. restored c.args.most c.args.max saved.writes c.args.keys c.args.specs.items saved.entries.items (map (λ order. order.items) orders)) c.deref-3.ensures.value
