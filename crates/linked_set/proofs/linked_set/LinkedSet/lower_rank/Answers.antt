use Rattle.std.proofs.Common.{refl}
use Rattle.list_model.specs.Place.{below}
use Rattle.container_model.specs.State.{is_ranked_kind}
use Rattle.linked_set.proofs.Places.{below_seen}
use Rattle.index_set.proofs.Reading.{ranked_key}
use Rattle.linked_set.proofs.Sought.{lead_ranked, sought}
use Rattle.linked_set.proofs.linked_set.LinkedSet.lower_rank.Goals as goal

pub lower_rank-requires : goal.lower_rank-requires
lower_rank-requires g c = lead_ranked c.self.view_is c.at.ensures g.E.Extract c.args.probe.now c.requires

pub returns : goal.returns
returns g c =
    let order = g.E.Extract.probe_order_of in
    let seen = below_seen c.self.inside.set c.self.inside.slots.items c.self.invariant.linked c.args.index order c.args.probe.now in
    sought c.self.view_is c.at.ensures order c.args.probe.now (λ n. n) below below seen is_ranked_kind ranked_key c.requires.kind c.lower_rank.ensures refl
