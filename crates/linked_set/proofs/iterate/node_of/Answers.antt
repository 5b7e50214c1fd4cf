use Rattle.std.proofs.Common.{None, Some, Ok, Err, slice_get, ap, refl, sym}
use Rattle.list_model.specs.Walk.{place_of}
use Rattle.container_model.specs.declared.refusal.Why.TheVariants.{Stale}
use Rattle.index_set.specs.Set.{list_of}
use Rattle.linked_set.specs.Records.{alone, records_in}
use Rattle.linked_set.proofs.Named.{held_here, told_live, told_past, told_stale}
use Rattle.linked_set.proofs.RowsAt.{answered_at, end_place, node_place}
use Rattle.linked_set.proofs.There.{no_nodes}
use Rattle.linked_set.proofs.iterate.node_of.Goals as goal

pub returns-in-None : goal.returns-in-None
returns-in-None g c =
    let set = c.args.set.now in
    answered_at (alone (records_in set)) c.args.index (list_of set c.args.index) (Ok None) (ap Ok (end_place set c.args.slots.now.items c.requires.linked c.args.index)) c.in-None.is

pub returns-in-Some-node_at : goal.returns-in-Some-node_at
returns-in-Some-node_at g c =
    let set = c.args.set.now in
    let slots = c.args.slots.now.items in
    let h = c.in-Some.handle in
    let n = c.in-Some-node_at.node in
    let list = list_of set c.args.index in
    let found = c.node_at.ensures.found n c.in-Some-node_at.is in
    let held = held_here set slots c.requires.linked h n found.0 found.1 c.args.index (c.is_there.ensures.there c.if-is_there.true) c.requires.listed in
    answered_at (alone (records_in set)) c.args.index list (Ok (Some n)) (told_live set slots c.requires refl h c.args.index n found (λ is hs. slice_get list (place_of is hs)) (Some n) (node_place set slots c.requires.linked c.args.index h n found held)) c.in-Some.is

pub returns-in-Some-2 : goal.returns-in-Some-2
returns-in-Some-2 g c =
    let set = c.args.set.now in
    let list = list_of set c.args.index in
    let n = c.in-Some-2.field-0 in
    let past = c.is_there.ensures.past c.if-is_there.false in
    let none = ap (λ l. slice_get l 0) (sym (no_nodes set c.requires.linked.sound c.args.index past)) in
    answered_at (alone (records_in set)) c.args.index list (Ok None) (told_past set c.args.slots.now.items c.requires refl c.in-Some.handle c.args.index n (c.node_at.ensures.found n c.in-Some-2.is) (λ is hs. slice_get list (place_of is hs)) None none past) c.in-Some.is

pub returns-in-None-node_at : goal.returns-in-None-node_at
returns-in-None-node_at g c =
    let set = c.args.set.now in
    let list = list_of set c.args.index in
    answered_at (alone (records_in set)) c.args.index list (Err Stale) (told_stale set c.args.slots.now.items c.requires refl c.in-Some.handle c.args.index (λ is hs. slice_get list (place_of is hs)) (λ n at. c.node_at.ensures.none n c.in-None-node_at.is at)) c.in-Some.is
