use Rattle.index_set.proofs.Holding.{Holds_put}
use Rattle.index_set.proofs.Reordered.{reordered_kept, reordered_lists}
use Rattle.index_set.specs.Set.{list_of}
use Rattle.list_model.specs.Walk.{relocated}
use Rattle.node_store.specs.ByNode.{same_node}
use Rattle.index_set.proofs.set.IndexSet.move_to.Goals as goal

pub invariant_of-self : goal.invariant_of-self
invariant_of-self g c =
    reordered_kept g.E.Extract c.self.invariant c.self.view_is c.args.index c.requires.at c.index_mut.result.now c.move_to.new.self c.index_mut.ensures.value c.move_to.new.store c.move_to.ensures.sound c.move_to.ensures.rest (relocated (same_node c.args.n) c.args.n c.args.place) c.move_to.ensures.list
    (Holds_put (list_of c.args.self.now c.args.index) _ c.args.n)

pub returns-clause-kept : goal.returns-clause-kept
returns-clause-kept g c = invariant_of-self g c

pub returns-clause-lists : goal.returns-clause-lists
returns-clause-lists g c =
    reordered_lists g.E.Extract c.self.invariant c.self.view_is c.args.index c.requires.at c.index_mut.result.now c.move_to.new.self c.index_mut.ensures.value c.move_to.new.store c.move_to.ensures.sound c.move_to.ensures.rest (relocated (same_node c.args.n) c.args.n c.args.place) c.move_to.ensures.list
