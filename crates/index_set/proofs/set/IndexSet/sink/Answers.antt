use Rattle.std.proofs.Common.{arith, subst}
use Rattle.node_store.specs.ByNode.{column_of}
use Rattle.any_index.specs.Marks.{HasMarks}
use Rattle.index_set.proofs.Sinking.{can_find_by, kept_sunk, lists_sunk, row_beside, row_sunk, row_there, same_row}
use Rattle.index_set.proofs.set.IndexSet.sink.Goals as goal

pub mark_key-low-requires-clause-find : goal.mark_key-low-requires-clause-find
mark_key-low-requires-clause-find g c =
    can_find_by g.E.Extract c.self.invariant c.self.view_is c.args.index c.args.row c.args.probe.now c.requires.kind c.requires.key c.index.result.now c.index-2.result.now c.index.ensures c.index-2.ensures

pub mark_key-low-requires-clause-row : goal.mark_key-low-requires-clause-row
mark_key-low-requires-clause-row g c =
    row_beside g.E.Extract c.self.invariant c.self.view_is c.args.index c.args.row c.args.probe.now c.requires.kind c.requires.key c.index.result.now c.index-2.result.now c.index.ensures c.index-2.ensures

pub index_mut-requires : goal.index_mut-requires
index_mut-requires g c =
    let there = row_there g.E.Extract c.self.invariant c.self.view_is c.args.index c.args.row c.args.probe.now c.requires.kind c.requires.key c.index.result.now c.index-2.result.now c.index.ensures c.index-2.ensures in
    omega (arith, there, c.self.invariant.filed.sound.placed.one_each)

pub close_up-requires : goal.close_up-requires
close_up-requires g c =
    let same = same_row g.E.Extract c.self.invariant c.self.view_is c.args.index c.args.row c.args.probe.now c.requires.kind c.requires.key c.index.result.now c.index-2.result.now c.index.ensures c.index-2.ensures c.index_mut.result.now c.index_mut.ensures.value in
    subst (λ row. HasMarks (column_of c.mark_key-low.new.store) row c.mark_key-low.result) same c.mark_key-low.ensures.marks

pub invariant_of-self : goal.invariant_of-self
invariant_of-self g c =
    kept_sunk g.E.Extract c.self.invariant c.self.view_is c.args.index c.args.row c.args.probe.now c.requires.kind c.requires.key c.index.result.now c.index-2.result.now c.index.ensures c.index-2.ensures
    c.mark_key-low.new.store c.close_up.new.store c.index_mut.result.now c.close_up.new.self c.index_mut.ensures.value
    c.mark_key-low.ensures.others c.mark_key-low.ensures.contents c.close_up.ensures.sound c.close_up.ensures.rest c.mark_key-low.ensures.marked c.close_up.ensures.sunk

pub returns-clause-kept : goal.returns-clause-kept
returns-clause-kept g c = invariant_of-self g c

pub returns-clause-lists : goal.returns-clause-lists
returns-clause-lists g c =
    lists_sunk g.E.Extract c.self.invariant c.self.view_is c.args.index c.args.row c.args.probe.now c.requires.kind c.requires.key c.index.result.now c.index-2.result.now c.index.ensures c.index-2.ensures
    c.mark_key-low.new.store c.close_up.new.store c.index_mut.result.now c.close_up.new.self c.index_mut.ensures.value
    c.mark_key-low.ensures.others c.mark_key-low.ensures.contents c.close_up.ensures.sound c.close_up.ensures.rest

pub returns-clause-sunk : goal.returns-clause-sunk
returns-clause-sunk g c =
    row_sunk g.E.Extract c.self.invariant c.self.view_is c.args.index c.args.row c.args.probe.now c.requires.kind c.requires.key c.index.result.now c.index-2.result.now c.index.ensures c.index-2.ensures
    c.mark_key-low.new.store c.close_up.new.store c.index_mut.result.now c.close_up.new.self c.index_mut.ensures.value
    c.mark_key-low.ensures.others c.mark_key-low.ensures.contents c.close_up.ensures.sound c.close_up.ensures.rest c.mark_key-low.ensures.marked c.close_up.ensures.sunk
