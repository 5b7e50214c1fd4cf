use Rattle.std.proofs.Common.{sym, ◌∙◌}
use Rattle.std.specs.Prelude.{option_map}
use Rattle.list_model.specs.Walk.{last}
use Rattle.node_store.specs.Store.{IsNodeOf}
use Rattle.any_index.specs.At.{list_in}
use Rattle.index_set.specs.Set.{store_of, record_of}
use Rattle.linked_set.specs.Linked.{handle_of}
use Rattle.linked_set.proofs.Places.{last_seen, some_last}
use Rattle.linked_set.proofs.Sought.{all_told, listed}
use Rattle.linked_set.proofs.linked_set.LinkedSet.last.Goals as goal

pub position_at-requires : goal.position_at-requires
position_at-requires g c m found =
    some_last (IsNodeOf (store_of c.self.inside.set)) (list_in c.in-Some.listed) (all_told c.in-Some.ensures.own c.self.invariant.linked.sound) m (sym c.last.ensures ∙ found)

pub returns-in-Some : goal.returns-in-Some
returns-in-Some g c =
    let set = c.self.inside.set in
    listed c.self.view_is c.in-Some.ensures.own (option_map (handle_of (record_of set))) last last (last_seen set c.self.inside.slots.items c.self.invariant.linked c.args.index) c.last.ensures c.position_at.ensures
