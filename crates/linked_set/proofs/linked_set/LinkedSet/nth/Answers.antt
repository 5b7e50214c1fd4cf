use Rattle.std.proofs.Common.{slice_get}
use Rattle.std.specs.Prelude.{option_map}
use Rattle.index_set.specs.Set.{record_of}
use Rattle.linked_set.specs.Linked.{handle_of}
use Rattle.linked_set.proofs.Places.{nth_seen}
use Rattle.linked_set.proofs.Sought.{node_told, listed}
use Rattle.linked_set.proofs.linked_set.LinkedSet.nth.Goals as goal

pub position_at-requires : goal.position_at-requires
position_at-requires g c = node_told c.at.ensures c.self.invariant.linked.sound c.args.n c.nth.ensures

pub returns : goal.returns
returns g c =
    let set = c.self.inside.set in
    let seen = nth_seen set c.self.inside.slots.items c.self.invariant.linked c.args.index c.args.n in
    listed c.self.view_is c.at.ensures (option_map (handle_of (record_of set))) (λ l. slice_get l c.args.n) (λ l. slice_get l c.args.n) seen c.nth.ensures c.position_at.ensures
