use Rattle.any_index.proofs.ByAge.{Holds_moved}
use Rattle.index_set.proofs.Reordered.{reordered_kept, reordered_lists}
use Rattle.index_set.specs.Set.{list_of}
use Rattle.std.proofs.lemmas.List.Sorted.{IsPermutation-reverse}
use Rattle.std.specs.Prelude.{reverse}
use Rattle.index_set.proofs.set.IndexSet.reverse.Goals as goal

pub invariant_of-self : goal.invariant_of-self
invariant_of-self g c =
    let xs = list_of c.args.self.now c.args.index in
    reordered_kept g.E.Extract c.self.invariant c.self.view_is c.args.index c.requires c.index_mut.result.now c.reverse.new.self c.index_mut.ensures.value c.reverse.new.store c.reverse.ensures.sound c.reverse.ensures.rest reverse c.reverse.ensures.list
    (λ m. Holds_moved xs (reverse xs) m (IsPermutation-reverse xs))

pub returns-clause-kept : goal.returns-clause-kept
returns-clause-kept g c = invariant_of-self g c

pub returns-clause-lists : goal.returns-clause-lists
returns-clause-lists g c =
    reordered_lists g.E.Extract c.self.invariant c.self.view_is c.args.index c.requires c.index_mut.result.now c.reverse.new.self c.index_mut.ensures.value c.reverse.new.store c.reverse.ensures.sound c.reverse.ensures.rest reverse c.reverse.ensures.list
