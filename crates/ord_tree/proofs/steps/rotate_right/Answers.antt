use Rattle.std.proofs.Common.{◌≡◌, ℕ, ◌<◌, ◌≤◌, subst, refl, arith, ap, ◌∙◌}
use Rattle.ord_tree.specs.Tree.{Tree, Fork, height}
use Rattle.ord_tree.proofs.Rotations.{IsAt-nodes, IsAt-height, open_left, half_right, whole_right, double_right_links, after_first, can_hang, open_middle, rotated_right-single, rotated_right-double, Becomes-left}
use Rattle.ord_tree.proofs.steps.rotate_right.Goals as goal

pub link-outer-requires : goal.link-outer-requires
link-outer-requires g c = IsAt-nodes g.T.Tally.of _ _ c.requires.sides.l c.requires.sides.at_left c.args.left refl

pub height_of-requires : goal.height_of-requires
height_of-requires g c = let o = open_left g.T.Tally.of _ _ _ _ _ c.requires.sides c.link-outer.ensures in IsAt-nodes g.T.Tally.of _ _ o.inner o.at_inner

pub height_of-requires-2 : goal.height_of-requires-2
height_of-requires-2 g c = let o = open_left g.T.Tally.of _ _ _ _ _ c.requires.sides c.link-outer.ensures in IsAt-nodes g.T.Tally.of _ _ o.outer o.at_outer

pub join-requires-clause-left : goal.join-requires-clause-left
join-requires-clause-left g c =
    let o = open_left g.T.Tally.of _ _ _ _ _ c.requires.sides c.link-outer.ensures in
    can_hang g.T.Tally.of _ _ o.inner o.at_inner (omega (arith, o.inner_low))

pub join-requires-clause-right : goal.join-requires-clause-right
join-requires-clause-right g c = let s = c.requires.sides in can_hang g.T.Tally.of _ _ s.r s.at_right (omega (arith, s.right_low))

pub join-requires-then-height_of-clause-left : goal.join-requires-then-height_of-clause-left
join-requires-then-height_of-clause-left g c =
    let s = c.requires.sides in
    let o = open_left g.T.Tally.of _ _ _ _ _ s c.link-outer.ensures in
    let half = half_right g.T.Tally.of _ _ _ _ c.link-outer.result _ o.outer o.inner s.r o.distinct o.at_outer o.at_inner o.at_r c.join.ensures.joined in
    can_hang g.T.Tally.of _ _ o.outer half.at_outer (omega (arith, o.outer_low))

pub join-requires-then-height_of-clause-right : goal.join-requires-then-height_of-clause-right
join-requires-then-height_of-clause-right g c =
    let s = c.requires.sides in
    let o = open_left g.T.Tally.of _ _ _ _ _ s c.link-outer.ensures in
    let half = half_right g.T.Tally.of _ _ _ _ c.link-outer.result _ o.outer o.inner s.r o.distinct o.at_outer o.at_inner o.at_r c.join.ensures.joined in
    can_hang g.T.Tally.of _ _ (Fork o.inner c.args.n s.r) half.at_n (omega (arith, o.inner_low, o.right_low))

pub returns-then-height_of-clause-tree : goal.returns-then-height_of-clause-tree
returns-then-height_of-clause-tree g c = λ s.
    let o = open_left g.T.Tally.of _ _ _ _ _ s c.link-outer.ensures in
    let hi : c.height_of.result ≡ height o.inner = c.height_of.ensures ∙ IsAt-height g.T.Tally.of _ _ o.inner o.at_inner in
    let ho : c.height_of-2.result ≡ height o.outer = c.height_of-2.ensures ∙ IsAt-height g.T.Tally.of _ _ o.outer o.at_outer in
    let le : height o.inner ≤ height o.outer = subst (λ (z : ℕ). height o.inner ≤ z) ho (subst (λ (z : ℕ). z ≤ c.height_of-2.result) hi c.if-height_of.true) in
    let b = whole_right g.T.Tally.of _ _ _ _ _ c.link-outer.result _ o.outer o.inner s.r o.distinct o.at_outer o.at_inner o.at_r c.join.ensures.joined c.join-then-height_of.ensures.joined in
    Becomes-left g.T.Tally.of _ _ s.l (Fork (o.outer) c.args.left o.inner) c.args.n s.r _ _ c.args.left o.is (rotated_right-single s.l o.outer c.args.left o.inner c.args.n s.r o.is le) b

pub join-requires-2-clause-left : goal.join-requires-2-clause-left
join-requires-2-clause-left g c =
    let s = c.requires.sides in
    let o = open_left g.T.Tally.of _ _ _ _ _ s c.link-outer.ensures in
    let m = open_middle g.T.Tally.of _ c.args.left c.in-Some.middle c.args.n c.link-outer.result c.link-first.result c.args.right s.l s.r o c.in-Some.is c.link-first.ensures in
    can_hang g.T.Tally.of _ _ o.outer m.at_outer (omega (arith, o.outer_low))

pub join-requires-2-clause-right : goal.join-requires-2-clause-right
join-requires-2-clause-right g c =
    let s = c.requires.sides in
    let o = open_left g.T.Tally.of _ _ _ _ _ s c.link-outer.ensures in
    let m = open_middle g.T.Tally.of _ c.args.left c.in-Some.middle c.args.n c.link-outer.result c.link-first.result c.args.right s.l s.r o c.in-Some.is c.link-first.ensures in
    can_hang g.T.Tally.of _ _ m.first m.at_first (omega (arith, m.first_low))

pub join-requires-3-clause-left : goal.join-requires-3-clause-left
join-requires-3-clause-left g c =
    let s = c.requires.sides in
    let o = open_left g.T.Tally.of _ _ _ _ _ s c.link-outer.ensures in
    let m = open_middle g.T.Tally.of _ c.args.left c.in-Some.middle c.args.n c.link-outer.result c.link-first.result c.args.right s.l s.r o c.in-Some.is c.link-first.ensures in
    let h = after_first g.T.Tally.of _ _ c.args.left c.in-Some.middle c.args.n c.link-outer.result.a c.link-first.result.a c.link-first.result.b c.args.right o.outer m.first m.second s.r m.distinct m.at_outer m.at_first m.at_second m.at_r c.join-2.ensures.joined in
    can_hang g.T.Tally.of _ _ m.second h.at_second (omega (arith, m.second_low))

pub join-requires-3-clause-right : goal.join-requires-3-clause-right
join-requires-3-clause-right g c =
    let s = c.requires.sides in
    let o = open_left g.T.Tally.of _ _ _ _ _ s c.link-outer.ensures in
    let m = open_middle g.T.Tally.of _ c.args.left c.in-Some.middle c.args.n c.link-outer.result c.link-first.result c.args.right s.l s.r o c.in-Some.is c.link-first.ensures in
    let h = after_first g.T.Tally.of _ _ c.args.left c.in-Some.middle c.args.n c.link-outer.result.a c.link-first.result.a c.link-first.result.b c.args.right o.outer m.first m.second s.r m.distinct m.at_outer m.at_first m.at_second m.at_r c.join-2.ensures.joined in
    can_hang g.T.Tally.of _ _ s.r h.at_r (omega (arith, s.right_low))

pub join-requires-4-clause-left : goal.join-requires-4-clause-left
join-requires-4-clause-left g c =
    let s = c.requires.sides in
    let o = open_left g.T.Tally.of _ _ _ _ _ s c.link-outer.ensures in
    let m = open_middle g.T.Tally.of _ c.args.left c.in-Some.middle c.args.n c.link-outer.result c.link-first.result c.args.right s.l s.r o c.in-Some.is c.link-first.ensures in
    let d = double_right_links g.T.Tally.of _ _ _ c.args.left c.in-Some.middle c.args.n c.link-outer.result.a c.link-first.result.a c.link-first.result.b c.args.right o.outer m.first m.second s.r m.distinct m.at_outer m.at_first m.at_second m.at_r c.join-2.ensures.joined c.join-3.ensures.joined in
    can_hang g.T.Tally.of _ _ (Fork o.outer c.args.left m.first) d.at_x (omega (arith, o.outer_low, m.first_low))

pub join-requires-4-clause-right : goal.join-requires-4-clause-right
join-requires-4-clause-right g c =
    let s = c.requires.sides in
    let o = open_left g.T.Tally.of _ _ _ _ _ s c.link-outer.ensures in
    let m = open_middle g.T.Tally.of _ c.args.left c.in-Some.middle c.args.n c.link-outer.result c.link-first.result c.args.right s.l s.r o c.in-Some.is c.link-first.ensures in
    let d = double_right_links g.T.Tally.of _ _ _ c.args.left c.in-Some.middle c.args.n c.link-outer.result.a c.link-first.result.a c.link-first.result.b c.args.right o.outer m.first m.second s.r m.distinct m.at_outer m.at_first m.at_second m.at_r c.join-2.ensures.joined c.join-3.ensures.joined in
    can_hang g.T.Tally.of _ _ (Fork m.second c.args.n s.r) d.at_n (omega (arith, m.second_low, s.right_low))

pub returns-clause-tree : goal.returns-clause-tree
returns-clause-tree g c = λ s.
    let o = open_left g.T.Tally.of _ _ _ _ _ s c.link-outer.ensures in
    let m = open_middle g.T.Tally.of _ c.args.left c.in-Some.middle c.args.n c.link-outer.result c.link-first.result c.args.right s.l s.r o c.in-Some.is c.link-first.ensures in
    let hi : c.height_of.result ≡ height o.inner = c.height_of.ensures ∙ IsAt-height g.T.Tally.of _ _ o.inner o.at_inner in
    let ho : c.height_of-2.result ≡ height o.outer = c.height_of-2.ensures ∙ IsAt-height g.T.Tally.of _ _ o.outer o.at_outer in
    let lt : height o.outer < height o.inner = subst (λ (z : ℕ). z < height o.inner) ho (subst (λ (z : ℕ). c.height_of-2.result < z) hi c.if-height_of.false) in
    let d = double_right_links g.T.Tally.of _ _ _ c.args.left c.in-Some.middle c.args.n c.link-outer.result.a c.link-first.result.a c.link-first.result.b c.args.right o.outer m.first m.second s.r m.distinct m.at_outer m.at_first m.at_second m.at_r c.join-2.ensures.joined c.join-3.ensures.joined in
    Becomes-left g.T.Tally.of _ _ s.l (Fork o.outer c.args.left (Fork m.first c.in-Some.middle m.second)) c.args.n s.r _ _ c.in-Some.middle (o.is ∙ ap (λ (z : Tree). Fork o.outer c.args.left z) m.is) (rotated_right-double s.l o.outer c.args.left o.inner m.first c.in-Some.middle m.second c.args.n s.r o.is m.is lt) (d.becomes c.join-4.ensures.joined)
