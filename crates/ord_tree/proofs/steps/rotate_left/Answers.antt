use Rattle.std.proofs.Common.{◌≡◌, ℕ, ◌<◌, ◌≤◌, subst, refl, arith, ap, ◌∙◌}
use Rattle.ord_tree.specs.Tree.{Tree, Fork, nodes, height}
use Rattle.ord_tree.proofs.Rotations.{IsAt-nodes, IsAt-height, open_right, half_left, whole_left, double_right_links, after_first, can_hang, open_middle_left, rotated_left-single, rotated_left-double, Becomes-right, Becomes-same, assoc_left}
use Rattle.ord_tree.proofs.steps.rotate_left.Goals as goal

pub link-inner-requires : goal.link-inner-requires
link-inner-requires g c =
    let s = c.requires.sides in
    IsAt-nodes g.T.Tally.of _ _ s.r s.at_right c.args.right refl

pub height_of-requires : goal.height_of-requires
height_of-requires g c =
    let s = c.requires.sides in
    let o = open_right g.T.Tally.of _ _ _ _ _ s c.link-inner.ensures in
    IsAt-nodes g.T.Tally.of _ _ o.inner o.at_inner

pub height_of-requires-2 : goal.height_of-requires-2
height_of-requires-2 g c =
    let s = c.requires.sides in
    let o = open_right g.T.Tally.of _ _ _ _ _ s c.link-inner.ensures in
    IsAt-nodes g.T.Tally.of _ _ o.outer o.at_outer

pub join-requires-clause-left : goal.join-requires-clause-left
join-requires-clause-left g c =
    let s = c.requires.sides in
    can_hang g.T.Tally.of _ _ s.l s.at_left (omega (arith, s.left_low))

pub join-requires-clause-right : goal.join-requires-clause-right
join-requires-clause-right g c =
    let s = c.requires.sides in
    let o = open_right g.T.Tally.of _ _ _ _ _ s c.link-inner.ensures in
    can_hang g.T.Tally.of _ _ o.inner o.at_inner (omega (arith, o.inner_low))

pub join-requires-then-height_of-clause-left : goal.join-requires-then-height_of-clause-left
join-requires-then-height_of-clause-left g c =
    let s = c.requires.sides in
    let o = open_right g.T.Tally.of _ _ _ _ _ s c.link-inner.ensures in
    let h = half_left g.T.Tally.of _ _ c.args.right c.args.n c.link-inner.result c.args.left s.l o.inner o.outer o.distinct o.at_l o.at_inner o.at_outer c.join.ensures.joined in
    can_hang g.T.Tally.of _ _ (Fork s.l c.args.n o.inner) h.at_n (omega (arith, o.left_low, o.inner_low))

pub join-requires-then-height_of-clause-right : goal.join-requires-then-height_of-clause-right
join-requires-then-height_of-clause-right g c =
    let s = c.requires.sides in
    let o = open_right g.T.Tally.of _ _ _ _ _ s c.link-inner.ensures in
    let h = half_left g.T.Tally.of _ _ c.args.right c.args.n c.link-inner.result c.args.left s.l o.inner o.outer o.distinct o.at_l o.at_inner o.at_outer c.join.ensures.joined in
    can_hang g.T.Tally.of _ _ o.outer h.at_outer (omega (arith, o.outer_low))

pub returns-then-height_of-clause-tree : goal.returns-then-height_of-clause-tree
returns-then-height_of-clause-tree g c = λ s.
    let o = open_right g.T.Tally.of _ _ _ _ _ s c.link-inner.ensures in
    let hi : c.height_of.result ≡ height o.inner = c.height_of.ensures ∙ IsAt-height g.T.Tally.of _ _ o.inner o.at_inner in
    let ho : c.height_of-2.result ≡ height o.outer = c.height_of-2.ensures ∙ IsAt-height g.T.Tally.of _ _ o.outer o.at_outer in
    let le : height o.inner ≤ height o.outer = subst (λ (z : ℕ). height o.inner ≤ z) ho (subst (λ (z : ℕ). z ≤ c.height_of-2.result) hi c.if-height_of.true) in
    let b = whole_left g.T.Tally.of _ _ _ c.args.right c.args.n c.link-inner.result c.args.left s.l o.inner o.outer o.distinct o.at_l o.at_inner o.at_outer c.join.ensures.joined c.join-then-height_of.ensures.joined in
    let same = Becomes-same g.T.Tally.of _ _ _ (nodes (Fork s.l c.args.n (Fork o.inner c.args.right o.outer))) _ _ c.args.right (assoc_left s.l c.args.n o.inner c.args.right o.outer) refl b in
    Becomes-right g.T.Tally.of _ _ s.l c.args.n s.r (Fork o.inner c.args.right o.outer) _ _ c.args.right o.is (rotated_left-single s.l c.args.n s.r o.inner c.args.right o.outer o.is le) same

pub join-requires-2-clause-right : goal.join-requires-2-clause-right
join-requires-2-clause-right g c =
    let s = c.requires.sides in
    let o = open_right g.T.Tally.of _ _ _ _ _ s c.link-inner.ensures in
    let m = open_middle_left g.T.Tally.of _ c.args.right c.in-Some.middle c.args.n c.link-inner.result c.link-first.result c.args.left s.l s.r o c.in-Some.is c.link-first.ensures in
    can_hang g.T.Tally.of _ _ m.first m.at_first (omega (arith, m.first_low))

pub join-requires-2-clause-left : goal.join-requires-2-clause-left
join-requires-2-clause-left g c =
    let s = c.requires.sides in
    let o = open_right g.T.Tally.of _ _ _ _ _ s c.link-inner.ensures in
    can_hang g.T.Tally.of _ _ s.l s.at_left (omega (arith, s.left_low))

pub join-requires-3-clause-left : goal.join-requires-3-clause-left
join-requires-3-clause-left g c =
    let s = c.requires.sides in
    let o = open_right g.T.Tally.of _ _ _ _ _ s c.link-inner.ensures in
    let m = open_middle_left g.T.Tally.of _ c.args.right c.in-Some.middle c.args.n c.link-inner.result c.link-first.result c.args.left s.l s.r o c.in-Some.is c.link-first.ensures in
    let h = after_first g.T.Tally.of _ _ c.args.n c.in-Some.middle c.args.right c.args.left c.link-first.result.a c.link-first.result.b c.link-inner.result.b s.l m.first m.second o.outer m.distinct o.at_l m.at_first m.at_second o.at_outer c.join-2.ensures.joined in
    can_hang g.T.Tally.of _ _ m.second h.at_second (omega (arith, m.second_low))

pub join-requires-3-clause-right : goal.join-requires-3-clause-right
join-requires-3-clause-right g c =
    let s = c.requires.sides in
    let o = open_right g.T.Tally.of _ _ _ _ _ s c.link-inner.ensures in
    let m = open_middle_left g.T.Tally.of _ c.args.right c.in-Some.middle c.args.n c.link-inner.result c.link-first.result c.args.left s.l s.r o c.in-Some.is c.link-first.ensures in
    let h = after_first g.T.Tally.of _ _ c.args.n c.in-Some.middle c.args.right c.args.left c.link-first.result.a c.link-first.result.b c.link-inner.result.b s.l m.first m.second o.outer m.distinct o.at_l m.at_first m.at_second o.at_outer c.join-2.ensures.joined in
    can_hang g.T.Tally.of _ _ o.outer h.at_r (omega (arith, o.outer_low))

pub join-requires-4-clause-left : goal.join-requires-4-clause-left
join-requires-4-clause-left g c =
    let s = c.requires.sides in
    let o = open_right g.T.Tally.of _ _ _ _ _ s c.link-inner.ensures in
    let m = open_middle_left g.T.Tally.of _ c.args.right c.in-Some.middle c.args.n c.link-inner.result c.link-first.result c.args.left s.l s.r o c.in-Some.is c.link-first.ensures in
    let d = double_right_links g.T.Tally.of _ _ _ c.args.n c.in-Some.middle c.args.right c.args.left c.link-first.result.a c.link-first.result.b c.link-inner.result.b s.l m.first m.second o.outer m.distinct o.at_l m.at_first m.at_second o.at_outer c.join-2.ensures.joined c.join-3.ensures.joined in
    can_hang g.T.Tally.of _ _ (Fork s.l c.args.n m.first) d.at_x (omega (arith, o.left_low, m.first_low))

pub join-requires-4-clause-right : goal.join-requires-4-clause-right
join-requires-4-clause-right g c =
    let s = c.requires.sides in
    let o = open_right g.T.Tally.of _ _ _ _ _ s c.link-inner.ensures in
    let m = open_middle_left g.T.Tally.of _ c.args.right c.in-Some.middle c.args.n c.link-inner.result c.link-first.result c.args.left s.l s.r o c.in-Some.is c.link-first.ensures in
    let d = double_right_links g.T.Tally.of _ _ _ c.args.n c.in-Some.middle c.args.right c.args.left c.link-first.result.a c.link-first.result.b c.link-inner.result.b s.l m.first m.second o.outer m.distinct o.at_l m.at_first m.at_second o.at_outer c.join-2.ensures.joined c.join-3.ensures.joined in
    can_hang g.T.Tally.of _ _ (Fork m.second c.args.right o.outer) d.at_n (omega (arith, m.second_low, o.outer_low))

pub returns-clause-tree : goal.returns-clause-tree
returns-clause-tree g c = λ s.
    let o = open_right g.T.Tally.of _ _ _ _ _ s c.link-inner.ensures in
    let m = open_middle_left g.T.Tally.of _ c.args.right c.in-Some.middle c.args.n c.link-inner.result c.link-first.result c.args.left s.l s.r o c.in-Some.is c.link-first.ensures in
    let hi : c.height_of.result ≡ height o.inner = c.height_of.ensures ∙ IsAt-height g.T.Tally.of _ _ o.inner o.at_inner in
    let ho : c.height_of-2.result ≡ height o.outer = c.height_of-2.ensures ∙ IsAt-height g.T.Tally.of _ _ o.outer o.at_outer in
    let lt : height o.outer < height o.inner = subst (λ (z : ℕ). z < height o.inner) ho (subst (λ (z : ℕ). c.height_of-2.result < z) hi c.if-height_of.false) in
    let d = double_right_links g.T.Tally.of _ _ _ c.args.n c.in-Some.middle c.args.right c.args.left c.link-first.result.a c.link-first.result.b c.link-inner.result.b s.l m.first m.second o.outer m.distinct o.at_l m.at_first m.at_second o.at_outer c.join-2.ensures.joined c.join-3.ensures.joined in
    let b = d.becomes c.join-4.ensures.joined in
    let whole = Fork (Fork m.first c.in-Some.middle m.second) c.args.right o.outer in
    let same = Becomes-same g.T.Tally.of _ _ _ (nodes (Fork s.l c.args.n whole)) _ _ c.in-Some.middle (assoc_left s.l c.args.n (Fork m.first c.in-Some.middle m.second) c.args.right o.outer) refl b in
    Becomes-right g.T.Tally.of _ _ s.l c.args.n s.r whole _ _ c.in-Some.middle (o.is ∙ ap (λ (z : Tree). Fork z c.args.right o.outer) m.is) (rotated_left-double s.l c.args.n s.r o.inner m.first c.in-Some.middle m.second c.args.right o.outer o.is m.is lt) same
