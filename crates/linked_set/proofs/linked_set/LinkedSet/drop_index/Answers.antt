use Rattle.std.proofs.Common.{◌∙◌, ap, sym, subst}
use Rattle.container_model.specs.Indices.{without_index}
use Rattle.linked_set.specs.Asked.{HasKeysWithout}
use Rattle.linked_set.specs.Records.{alone, state_of}
use Rattle.linked_set.proofs.Listed.{listed_unindexed}
use Rattle.linked_set.proofs.linked_set.LinkedSet.drop_index.Goals as goal

pub invariant_of-self : goal.invariant_of-self
invariant_of-self g c =
    let set = c.self.inside.set in
    let order = g.E.Extract.order_of in
    let keys = c.args.keys in
    let made = c.drop_index.ensures in
    let asked = subst (λ t. HasKeysWithout g.E.Extract.has_key g.E.Extract.order_of g.E.Extract.hash_of (alone t) c.args.index c.args.keys) (sym c.self.view_is) c.requires.keys in
    record {
      linked = made.linked;
      listed = listed_unindexed set c.drop_index.new.set g.E.Extract.has_key order c.self.invariant.linked.sound.keys c.self.invariant.listed c.args.index keys asked.index asked.orders (made.ok 0 0);
    }

pub returns-clause-left : goal.returns-clause-left
returns-clause-left g c max writes = c.drop_index.ensures.ok max writes ∙ ap (λ r. without_index (state_of r max writes) c.args.index c.args.keys) c.self.view_is
