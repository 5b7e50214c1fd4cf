use Rattle.container_model.specs.State.{has_key_kind}
use Rattle.std.proofs.Common.{refl}
use Rattle.list_model.specs.Place.{count_equal}
use Rattle.linked_set.proofs.Places.{count_seen}
use Rattle.linked_set.proofs.Sought.{key, sought}
use Rattle.linked_set.proofs.linked_set.LinkedSet.count.Goals as goal

pub count-requires : goal.count-requires
count-requires g c = key c.self.view_is c.at.ensures g.E.Extract c.args.probe.now c.requires

pub returns : goal.returns
returns g c =
    let order = g.E.Extract.probe_order_of in
    let seen = count_seen c.self.inside.set c.self.inside.slots.items c.self.invariant.linked c.args.index order c.args.probe.now in
    sought c.self.view_is c.at.ensures order c.args.probe.now (λ n. n) count_equal count_equal seen has_key_kind (λ _ h. h) c.requires.kind c.count.ensures refl
