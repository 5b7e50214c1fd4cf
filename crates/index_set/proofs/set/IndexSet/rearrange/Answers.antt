use Rattle.any_index.proofs.ByAge.{Holds_moved}
use Rattle.index_set.proofs.Reordered.{reordered_kept, reordered_lists}
use Rattle.index_set.specs.Set.{list_of}
use Rattle.index_set.proofs.set.IndexSet.rearrange.Goals as goal

pub invariant_of-self : goal.invariant_of-self
invariant_of-self g c =
    reordered_kept g.E.Extract c.self.invariant c.self.view_is c.args.index c.requires.at c.index_mut.result.now c.rearrange.new.self c.index_mut.ensures.value c.rearrange.new.store c.rearrange.ensures.sound c.rearrange.ensures.rest (λ _. c.args.order.now) c.rearrange.ensures.list
    (λ m. Holds_moved (list_of c.args.self.now c.args.index) c.args.order.now m c.requires.members)

pub returns-clause-kept : goal.returns-clause-kept
returns-clause-kept g c = invariant_of-self g c

pub returns-clause-lists : goal.returns-clause-lists
returns-clause-lists g c =
    reordered_lists g.E.Extract c.self.invariant c.self.view_is c.args.index c.requires.at c.index_mut.result.now c.rearrange.new.self c.index_mut.ensures.value c.rearrange.new.store c.rearrange.ensures.sound c.rearrange.ensures.rest (λ _. c.args.order.now) c.rearrange.ensures.list
