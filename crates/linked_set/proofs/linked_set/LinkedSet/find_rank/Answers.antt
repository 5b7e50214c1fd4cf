use Rattle.container_model.specs.State.{is_ranked_kind}
use Rattle.std.proofs.Common.{refl}
use Rattle.list_model.specs.Place.{find_rank}
use Rattle.linked_set.proofs.Places.{find_rank_seen}
use Rattle.index_set.proofs.Reading.{ranked_key}
use Rattle.linked_set.proofs.Sought.{lead_ranked, sought}
use Rattle.linked_set.proofs.linked_set.LinkedSet.find_rank.Goals as goal

pub find_rank-requires : goal.find_rank-requires
find_rank-requires g c = lead_ranked c.self.view_is c.at.ensures g.E.Extract c.args.probe.now c.requires

pub returns : goal.returns
returns g c =
    let order = g.E.Extract.probe_order_of in
    let seen = find_rank_seen c.self.inside.set c.self.inside.slots.items c.self.invariant.linked c.args.index order c.args.probe.now in
    sought c.self.view_is c.at.ensures order c.args.probe.now (λ n. n) find_rank find_rank seen is_ranked_kind ranked_key c.requires.kind c.find_rank.ensures refl
