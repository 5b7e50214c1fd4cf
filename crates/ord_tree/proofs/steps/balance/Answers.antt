use Rattle.std.proofs.Common.{◌<◌, refl, arith, ◌∙◌}
use Rattle.ord_tree.proofs.Rotations.{IsAt-nodes, IsAt-height, Sides-left, Sides-right, rebalanced-right, rebalanced-left, rebalanced-fork, Becomes-same, can_hang, Joined-from, Becomes-joined}
use Rattle.ord_tree.proofs.steps.balance.Goals as goal

pub height_of-left_height-requires : goal.height_of-left_height-requires
height_of-left_height-requires g c =
    let s = c.requires.sides in
    IsAt-nodes g.T.Tally.of _ _ s.l s.at_left

pub height_of-right_height-requires : goal.height_of-right_height-requires
height_of-right_height-requires g c =
    let s = c.requires.sides in
    IsAt-nodes g.T.Tally.of _ _ s.r s.at_right

pub overflow_add-right_height : goal.overflow_add-right_height
overflow_add-right_height g c =
    let s = c.requires.sides in
    let hr = c.height_of-right_height.ensures ∙ IsAt-height g.T.Tally.of _ _ s.r s.at_right in
    let low : c.height_of-right_height.result < 200 = rw hr s.right_low in
    omega arith

pub rotate_right-requires-clause-sides : goal.rotate_right-requires-clause-sides
rotate_right-requires-clause-sides g c =
    let s = c.requires.sides in
    Sides-left g.T.Tally.of _ _ _ _ _ c.in-Some.is s

pub rotate_left-requires-clause-sides : goal.rotate_left-requires-clause-sides
rotate_left-requires-clause-sides g c =
    let s = c.requires.sides in
    Sides-right g.T.Tally.of _ _ _ _ _ c.in-Some-right.is s

pub returns-then-left_height-right_height-clause-tree : goal.returns-then-left_height-right_height-clause-tree
returns-then-left_height-right_height-clause-tree g c = λ s.
    let hl = c.height_of-left_height.ensures ∙ IsAt-height g.T.Tally.of _ _ s.l s.at_left in
    let hr = c.height_of-right_height.ensures ∙ IsAt-height g.T.Tally.of _ _ s.r s.at_right in
    Becomes-same g.T.Tally.of _ _ _ _ _ _ _ refl (rebalanced-right s.l c.args.n s.r _ _ hl hr c.if-left_height-right_height.true) (c.rotate_right.ensures.tree (Sides-left g.T.Tally.of _ _ _ _ _ c.in-Some.is s))

pub returns-then-right_height-left_height-clause-tree : goal.returns-then-right_height-left_height-clause-tree
returns-then-right_height-left_height-clause-tree g c = λ s.
    let hl = c.height_of-left_height.ensures ∙ IsAt-height g.T.Tally.of _ _ s.l s.at_left in
    let hr = c.height_of-right_height.ensures ∙ IsAt-height g.T.Tally.of _ _ s.r s.at_right in
    Becomes-same g.T.Tally.of _ _ _ _ _ _ _ refl (rebalanced-left s.l c.args.n s.r _ _ hl hr c.if-right_height-left_height.true) (c.rotate_left.ensures.tree (Sides-right g.T.Tally.of _ _ _ _ _ c.in-Some-right.is s))

pub join-requires-clause-left : goal.join-requires-clause-left
join-requires-clause-left g c =
    let s = c.requires.sides in
    can_hang g.T.Tally.of _ _ s.l s.at_left (omega (arith, s.left_low))

pub join-requires-clause-right : goal.join-requires-clause-right
join-requires-clause-right g c =
    let s = c.requires.sides in
    can_hang g.T.Tally.of _ _ s.r s.at_right (omega (arith, s.right_low))

pub returns-clause-tree : goal.returns-clause-tree
returns-clause-tree g c = λ s.
    let hl = c.height_of-left_height.ensures ∙ IsAt-height g.T.Tally.of _ _ s.l s.at_left in
    let hr = c.height_of-right_height.ensures ∙ IsAt-height g.T.Tally.of _ _ s.r s.at_right in
    Becomes-same g.T.Tally.of _ _ _ _ _ _ _ refl (rebalanced-fork s.l c.args.n s.r _ _ hl hr c.if-left_height-right_height.false c.if-right_height-left_height.false) (Becomes-joined g.T.Tally.of (Joined-from g.T.Tally.of _ _ _ c.args.n _ s.l s.r c.join.ensures.joined s.at_left s.at_right s.distinct))
