use Rattle.index_set.proofs.Emptied.{cleared_kept, cleared_lists, no_length, no_nodes}
use Rattle.index_set.proofs.set.IndexSet.clear.Goals as goal

pub invariant_of-self : goal.invariant_of-self
invariant_of-self g c =
    cleared_kept g.E.Extract c.self.invariant c.self.view_is c.remove_all.new.store c.remove_all.ensures.sound c.remove_all.ensures.nodes c.remove_all.ensures.width c.deref.result.now c.deref.ensures.value c.empty_each.new.indices
    c.empty_each.ensures.placed c.empty_each.ensures.within c.empty_each.ensures.empty

pub returns-clause-kept : goal.returns-clause-kept
returns-clause-kept g c = invariant_of-self g c

pub returns-clause-lists : goal.returns-clause-lists
returns-clause-lists g c =
    cleared_lists g.E.Extract c.self.invariant c.self.view_is c.remove_all.new.store c.remove_all.ensures.sound c.remove_all.ensures.nodes c.remove_all.ensures.width c.deref.result.now c.deref.ensures.value c.empty_each.new.indices
    c.empty_each.ensures.placed c.empty_each.ensures.within c.empty_each.ensures.empty

pub returns-clause-none : goal.returns-clause-none
returns-clause-none g c = no_nodes c.remove_all.new.store c.remove_all.ensures.sound c.remove_all.ensures.nodes

pub returns-clause-len : goal.returns-clause-len
returns-clause-len g c = no_length c.remove_all.new.store c.remove_all.ensures.sound c.remove_all.ensures.nodes
