use Rattle.std.proofs.Common.{arith}
use Rattle.linked_set.specs.Held.{has_other_key}
use Rattle.linked_set.proofs.Thinned.{none_thinned, one_thinned, entries_thinned, lists_thinned, all_other, found_held, found_stopped}
use Rattle.linked_set.proofs.erase_key.take_each.Goals as goal

pub loop-node-init : goal.loop-node-init
loop-node-init g c = none_thinned (has_other_key g.E.Extract.probe_order_of c.args.set.now c.args.index c.args.probe.now) c.args.set.now c.args.slots.now.items c.requires.linked c.requires.held

pub take_out-requires-clause-node : goal.take_out-requires-clause-node
take_out-requires-clause-node g c =
    let found = c.in-Some.ensures.found in
    found_held g.E.Extract.probe_order_of c.args.index c.args.probe.now c.args.set.now c.loop-node.set c.loop-node.slots.items c.loop-node.invariant c.requires.index c.in-Some.node found.0

pub loop-node-smaller : goal.loop-node-smaller
loop-node-smaller g c = omega (arith, c.take_out.ensures.len)

pub loop-node-preserved : goal.loop-node-preserved
loop-node-preserved g c =
    let found = c.in-Some.ensures.found in
    let taken = c.take_out.ensures in
    one_thinned (has_other_key g.E.Extract.probe_order_of c.args.set.now c.args.index c.args.probe.now) c.args.set.now c.loop-node.set c.take_out.new.set c.loop-node.slots.items c.take_out.new.slots.items c.loop-node.invariant
    c.take_out.result.handle (found_stopped g.E.Extract.probe_order_of c.args.index c.args.probe.now c.args.set.now c.loop-node.set c.loop-node.slots.items c.loop-node.invariant c.requires.index c.in-Some.node c.take_out.result found.0 found.1 taken.record)
    taken.linked taken.held taken.same taken.entries taken.lists taken.count taken.len

pub overflow_sub-result : goal.overflow_sub-result
overflow_sub-result g c = omega (arith, rw c.store-2.ensures at c.len.ensures.len, rw c.store.ensures at c.len-before.ensures.len, c.loop-node.invariant.fewer)

pub returns-clause-linked : goal.returns-clause-linked
returns-clause-linked g c = c.loop-node.invariant.linked

pub returns-clause-same : goal.returns-clause-same
returns-clause-same g c = c.loop-node.invariant.same

pub returns-clause-entries : goal.returns-clause-entries
returns-clause-entries g c =
    entries_thinned (has_other_key g.E.Extract.probe_order_of c.args.set.now c.args.index c.args.probe.now) c.args.set.now c.loop-node.set c.loop-node.slots.items c.loop-node.invariant
    (all_other g.E.Extract.probe_order_of c.args.index c.args.probe.now c.args.set.now c.loop-node.set c.loop-node.slots.items c.loop-node.invariant c.requires.index (c.last_or_any.ensures.none c.in_default.is))

pub returns-clause-lists : goal.returns-clause-lists
returns-clause-lists g c =
    lists_thinned (has_other_key g.E.Extract.probe_order_of c.args.set.now c.args.index c.args.probe.now) c.args.set.now c.loop-node.set c.loop-node.slots.items c.loop-node.invariant
    (all_other g.E.Extract.probe_order_of c.args.index c.args.probe.now c.args.set.now c.loop-node.set c.loop-node.slots.items c.loop-node.invariant c.requires.index (c.last_or_any.ensures.none c.in_default.is))
