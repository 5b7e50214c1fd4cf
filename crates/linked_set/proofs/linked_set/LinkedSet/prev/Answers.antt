use Rattle.std.proofs.Common.{None, refl, sym, ◌∙◌}
use Rattle.std.specs.Prelude.{option_map}
use Rattle.list_model.specs.Walk.{prev}
use Rattle.list_model.proofs.Neighbours.{some_prev}
use Rattle.node_store.specs.ByNode.{same_node}
use Rattle.node_store.specs.Store.{IsNodeOf}
use Rattle.any_index.specs.At.{list_in}
use Rattle.index_set.specs.Set.{store_of, record_of}
use Rattle.linked_set.specs.Linked.{handle_of}
use Rattle.linked_set.proofs.Named.{prev_seen, told_held, told_named, told_past, told_stale}
use Rattle.linked_set.proofs.Sought.{all_told}
use Rattle.linked_set.proofs.linked_set.LinkedSet.prev.Goals as goal

pub returns-in_default : goal.returns-in_default
returns-in_default g c = told_stale c.self.inside.set c.self.inside.slots.items c.self.invariant c.self.view_is c.args.handle c.args.index prev (λ n at. c.node_at.ensures.none n c.in_default.is at)

pub prev-requires-clause-held : goal.prev-requires-clause-held
prev-requires-clause-held g c =
    let listed = c.in-Some-index_at.ensures in
    told_held c.self.inside.set c.self.inside.slots.items c.self.invariant c.self.view_is c.args.handle c.args.index c.in-Some.node (c.node_at.ensures.found c.in-Some.node c.in-Some.is) listed.own listed.there

pub position_at-requires : goal.position_at-requires
position_at-requires g c m found =
    some_prev (IsNodeOf (store_of c.self.inside.set)) (same_node c.in-Some.node) (list_in c.in-Some-index_at.listed) (all_told c.in-Some-index_at.ensures.own c.self.invariant.linked.sound) m (sym c.prev.ensures ∙ found)

pub returns-in-Some-index_at : goal.returns-in-Some-index_at
returns-in-Some-index_at g c =
    let set = c.self.inside.set in
    let slots = c.self.inside.slots.items in
    let found = c.node_at.ensures.found c.in-Some.node c.in-Some.is in
    let seen = prev_seen set slots c.self.invariant.linked c.args.handle c.in-Some.node found.0 found.1 c.args.index in
    told_named set slots c.self.invariant c.self.view_is c.args.handle c.args.index c.in-Some.node found c.in-Some-index_at.ensures.own (option_map (handle_of (record_of set))) prev prev seen c.prev.ensures c.position_at.ensures

pub returns-in-None : goal.returns-in-None
returns-in-None g c =
    told_past c.self.inside.set c.self.inside.slots.items c.self.invariant c.self.view_is c.args.handle c.args.index c.in-Some.node (c.node_at.ensures.found c.in-Some.node c.in-Some.is) prev None refl (c.index_at.ensures.none c.in-None.is)
