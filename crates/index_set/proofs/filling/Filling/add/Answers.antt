use Rattle.index_set.proofs.StaysUnique.{unique_after_add}
use Rattle.index_set.proofs.filling.Filling.add.Goals as goal

pub invariant_of-self : goal.invariant_of-self
invariant_of-self g c =
    let was = c.self.invariant in
    let added = c.add.ensures in
    record {
      sound = added.sound;
      keyed = added.keyed was.keyed;
      unique = unique_after_add g.E.Extract.order_of c.self.inside.parts c.add.new.self was.sound added.same c.args.value c.add.result added.lists added.added added.loose added.unchanged was.unique;
    }

pub returns-clause-filed : goal.returns-clause-filed
returns-clause-filed g c = invariant_of-self g c
