use Rattle.index_set.proofs.Putting.{alike_kept}
use Rattle.index_set.proofs.set.IndexSet.check_index.Goals as goal

pub invariant_of-self : goal.invariant_of-self
invariant_of-self g c =
    let e = c.made_index.ensures in
    alike_kept g.E.Extract c.self.inside.parts c.made_index.new.self c.self.invariant (record { same = e.same; contents = e.contents; lists = e.lists }) e.sound e.keyed

pub returns-in_err-made_index-clause-kept : goal.returns-in_err-made_index-clause-kept
returns-in_err-made_index-clause-kept g c = invariant_of-self g c

pub invariant_of-self-2 : goal.invariant_of-self-2
invariant_of-self-2 g c =
    let e = c.made_index.ensures in
    alike_kept g.E.Extract c.self.inside.parts c.made_index.new.self c.self.invariant (record { same = e.same; contents = e.contents; lists = e.lists }) e.sound e.keyed

pub returns-clause-kept : goal.returns-clause-kept
returns-clause-kept g c = invariant_of-self-2 g c
