use Rattle.std.specs.Prelude.{option_map}
use Rattle.list_model.specs.Place.{upper}
use Rattle.container_model.specs.State.{is_sorted_kind}
use Rattle.index_set.specs.Set.{record_of}
use Rattle.linked_set.specs.Linked.{handle_of}
use Rattle.linked_set.proofs.Places.{upper_seen}
use Rattle.index_set.proofs.Reading.{sorted_key}
use Rattle.linked_set.proofs.Sought.{lead_in_order, node_told, sought}
use Rattle.linked_set.proofs.linked_set.LinkedSet.upper.Goals as goal

pub upper-requires : goal.upper-requires
upper-requires g c = lead_in_order c.self.view_is c.at.ensures g.E.Extract c.args.probe.now c.requires

pub position_at-requires : goal.position_at-requires
position_at-requires g c = node_told c.at.ensures c.self.invariant.linked.sound _ c.upper.ensures

pub returns : goal.returns
returns g c =
    let set = c.self.inside.set in
    let order = g.E.Extract.probe_order_of in
    let seen = upper_seen set c.self.inside.slots.items c.self.invariant.linked c.args.index order c.args.probe.now in
    sought c.self.view_is c.at.ensures order c.args.probe.now (option_map (handle_of (record_of set))) upper upper seen is_sorted_kind sorted_key c.requires.kind c.upper.ensures c.position_at.ensures
