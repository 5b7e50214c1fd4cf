use Rattle.std.proofs.Common.{refl}
use Rattle.list_model.specs.Walk.{place_of}
use Rattle.container_model.specs.State.{has_places_kind}
use Rattle.linked_set.proofs.Named.{place_seen, told_held, told_named, told_stale}
use Rattle.linked_set.proofs.Sought.{there}
use Rattle.linked_set.proofs.linked_set.LinkedSet.place_of.Goals as goal

pub place_of-requires-clause-held : goal.place_of-requires-clause-held
place_of-requires-clause-held g c =
    let within = there c.self.inside.set c.self.view_is has_places_kind refl c.requires in
    told_held c.self.inside.set c.self.inside.slots.items c.self.invariant c.self.view_is c.args.handle c.args.index c.in-Some.node (c.node_at.ensures.found c.in-Some.node c.in-Some.is) c.at.ensures within

pub returns-in-Some : goal.returns-in-Some
returns-in-Some g c =
    let set = c.self.inside.set in
    let slots = c.self.inside.slots.items in
    let found = c.node_at.ensures.found c.in-Some.node c.in-Some.is in
    let seen = place_seen set slots c.self.invariant.linked c.args.handle c.in-Some.node found.0 found.1 c.args.index in
    told_named set slots c.self.invariant c.self.view_is c.args.handle c.args.index c.in-Some.node found c.at.ensures (λ n. n) place_of place_of seen c.place_of.ensures refl

pub returns-in-None : goal.returns-in-None
returns-in-None g c = told_stale c.self.inside.set c.self.inside.slots.items c.self.invariant c.self.view_is c.args.handle c.args.index place_of (λ n at. c.node_at.ensures.none n c.in-None.is at)
