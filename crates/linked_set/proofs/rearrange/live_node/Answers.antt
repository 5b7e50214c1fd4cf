use Rattle.std.proofs.Common.{sym, ◌∙◌}
use Rattle.linked_set.proofs.Live.{stale_seen}
use Rattle.linked_set.proofs.Rearranged.{some_by}
use Rattle.linked_set.proofs.rearrange.live_node.Goals as goal

pub unwrap-requires : goal.unwrap-requires
unwrap-requires g c =
    some_by c.node_at.result
    (λ none. let bad = sym c.requires.live ∙ stale_seen (g.S.Nodes.parts c.args.set.now) c.args.slots.now.items c.requires.linked c.args.handle (λ n at. c.node_at.ensures.none n none at) in cc)
