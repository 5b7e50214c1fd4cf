use Rattle.std.proofs.Common.{◌∙◌}
use Rattle.linked_set.proofs.Listed.{listed_same, same_records}
use Rattle.linked_set.proofs.linked_set.LinkedSet.check_index.Goals as goal

pub invariant_of-self : goal.invariant_of-self
invariant_of-self g c =
    let e = c.check_index-why.ensures in
    record {
      linked = e.linked;
      listed = listed_same c.self.inside.set c.check_index-why.new.set g.E.Extract.has_key g.E.Extract.order_of c.self.invariant.linked.sound.keys c.self.invariant.listed (e.same 0 0);
    }

pub returns-clause-unchanged : goal.returns-clause-unchanged
returns-clause-unchanged g c =
    let e = c.check_index-why.ensures in
    same_records c.self.inside.set c.check_index-why.new.set (e.same 0 0) e.count ∙ c.self.view_is
