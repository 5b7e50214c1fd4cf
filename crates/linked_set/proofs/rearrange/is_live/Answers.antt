use Rattle.std.proofs.Common.{sym}
use Rattle.linked_set.proofs.Live.{stale_seen, live_seen}
use Rattle.linked_set.proofs.rearrange.is_live.Goals as goal

pub returns-in-Some : goal.returns-in-Some
returns-in-Some g c =
    let found = c.node_at.ensures.found c.in-Some.field-0 c.in-Some.is in
    sym (live_seen (g.S.Nodes.parts c.args.set.now) c.args.slots.now.items c.requires c.args.handle c.in-Some.field-0 found.0 found.1)

pub returns-in-None : goal.returns-in-None
returns-in-None g c = sym (stale_seen (g.S.Nodes.parts c.args.set.now) c.args.slots.now.items c.requires c.args.handle (λ n at. c.node_at.ensures.none n c.in-None.is at))
