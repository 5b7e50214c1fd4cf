use Rattle.std.proofs.Common.{refl}
use Rattle.node_store.specs.ByNode.{column_of}
use Rattle.ord_tree.specs.Mirror.{flipped_link, flipped_tally}
use Rattle.ord_tree.proofs.Rotations.{IsAt-nodes}
use Rattle.ord_tree.proofs.Removing.{first_turn, first_end}
use Rattle.ord_tree.proofs.Mirror.{flip_link, unflip_node}
use Rattle.ord_tree.proofs.walk.last_below.Goals as goal

pub link-requires : goal.link-requires
link-requires g c =
    let s = c.loop-right.invariant c.requires.tree c.requires.is in
    unflip_node (column_of c.args.store.now c.args.col) c.loop-right.last (IsAt-nodes (flipped_tally g.T.Tally.of) _ _ s.here s.is c.loop-right.last refl)

pub loop-right-smaller : goal.loop-right-smaller
loop-right-smaller g c =
    (first_turn (flipped_tally g.T.Tally.of) _ _ _ (flipped_link c.link.result) _ (c.loop-right.invariant c.requires.tree c.requires.is) (flip_link (column_of c.args.store.now c.args.col) c.loop-right.last c.link.result c.link.ensures) c.in-Some.is).lower

pub loop-right-preserved : goal.loop-right-preserved
loop-right-preserved g c = λ t h.
    (first_turn (flipped_tally g.T.Tally.of) _ _ _ (flipped_link c.link.result) t (c.loop-right.invariant t h) (flip_link (column_of c.args.store.now c.args.col) c.loop-right.last c.link.result c.link.ensures) c.in-Some.is).next

pub returns-clause-first : goal.returns-clause-first
returns-clause-first g c = λ t h.
    first_end (flipped_tally g.T.Tally.of) _ _ (flipped_link c.link.result) t (c.loop-right.invariant t h) (flip_link (column_of c.args.store.now c.args.col) c.loop-right.last c.link.result c.link.ensures) c.in_default.is
