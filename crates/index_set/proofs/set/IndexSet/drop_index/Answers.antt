use Rattle.index_set.proofs.Dropping.{rest_sound, shrunk_kept, shrunk_lists}
use Rattle.index_set.proofs.set.IndexSet.drop_index.Goals as goal

pub renumber_each-requires : goal.renumber_each-requires
renumber_each-requires g c = rest_sound g.E.Extract c.self.invariant c.self.view_is c.args.index c.args.keys c.requires c.remove-2.new.self.items c.remove-2.ensures.items

pub invariant_of-self : goal.invariant_of-self
invariant_of-self g c =
    shrunk_kept g.E.Extract c.self.invariant c.self.view_is c.args.index c.args.keys c.requires c.remove-2.new.self.items c.remove-2.ensures.items
    c.remove.new.self c.remove.ensures.items c.renumber_each.new.indices c.renumber_each.ensures.count c.renumber_each.ensures.each c.remove-2.result g.met.E.Extract.one_digest

pub returns-clause-kept : goal.returns-clause-kept
returns-clause-kept g c = invariant_of-self g c

pub returns-clause-lists : goal.returns-clause-lists
returns-clause-lists g c =
    shrunk_lists g.E.Extract c.self.invariant c.self.view_is c.args.index c.args.keys c.requires c.remove-2.new.self.items c.remove-2.ensures.items
    c.remove.new.self c.remove.ensures.items c.renumber_each.new.indices c.renumber_each.ensures.count c.renumber_each.ensures.each c.remove-2.result
