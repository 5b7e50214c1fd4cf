use Rattle.index_set.proofs.Joining.{grown_kept}
use Rattle.index_set.proofs.Putting.{alike_kept}
use Rattle.index_set.proofs.set.IndexSet.add_index.Goals as goal

pub invariant_of-self : goal.invariant_of-self
invariant_of-self g c =
    let e = c.in-Ok.ensures in
    grown_kept g.E.Extract c.self.invariant c.self.view_is c.args.spec c.args.keys c.args.nodes.now c.requires c.made_index.new.self e.sound e.same e.lists e.keyed e.contents e.fits c.in-Ok.made e.next
    c.push_reserved.new.self c.push_reserved.ensures.items c.push_reserved-in-Ok.new.self c.push_reserved-in-Ok.ensures.items g.met.E.Extract.one_digest

pub invariant_of-self-in-Err : goal.invariant_of-self-in-Err
invariant_of-self-in-Err g c =
    let e = c.in-Err.ensures in
    alike_kept g.E.Extract c.self.inside.parts c.made_index.new.self c.self.invariant (record { same = e.same; contents = e.contents; lists = e.lists }) e.sound e.keyed

pub returns-in-Ok-clause-kept : goal.returns-in-Ok-clause-kept
returns-in-Ok-clause-kept g c = invariant_of-self g c

pub returns-in-Err-clause-kept : goal.returns-in-Err-clause-kept
returns-in-Err-clause-kept g c = invariant_of-self-in-Err g c
