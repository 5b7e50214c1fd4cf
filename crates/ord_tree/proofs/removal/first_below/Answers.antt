use Rattle.std.proofs.Common.{refl}
use Rattle.ord_tree.proofs.Rotations.{IsAt-nodes}
use Rattle.ord_tree.proofs.Removing.{first_turn, first_end}
use Rattle.ord_tree.proofs.removal.first_below.Goals as goal

pub link-requires : goal.link-requires
link-requires g c =
    let s = c.loop-left.invariant c.requires.tree c.requires.is in
    IsAt-nodes g.T.Tally.of _ _ s.here s.is c.loop-left.first refl

pub loop-left-smaller : goal.loop-left-smaller
loop-left-smaller g c = (first_turn g.T.Tally.of _ _ _ c.link.result _ (c.loop-left.invariant c.requires.tree c.requires.is) c.link.ensures c.in-Some.is).lower

pub loop-left-preserved : goal.loop-left-preserved
loop-left-preserved g c = λ t h. (first_turn g.T.Tally.of _ _ _ c.link.result t (c.loop-left.invariant t h) c.link.ensures c.in-Some.is).next

pub returns-clause-first : goal.returns-clause-first
returns-clause-first g c = λ t h. first_end g.T.Tally.of _ _ c.link.result t (c.loop-left.invariant t h) c.link.ensures c.in_default.is
