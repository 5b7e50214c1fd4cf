use Rattle.std.proofs.Common.{◌≡◌, ℕ, ◌∙◌, subst, refl, arith}
use Rattle.node_store.specs.ByNode.{column_of}
use Rattle.ord_tree.specs.Tree.{height, stored_height}
use Rattle.ord_tree.specs.Steps.{IsHeightOver}
use Rattle.ord_tree.proofs.TreeLinks.{AreNodes-root}
use Rattle.ord_tree.proofs.Rotations.{IsAt-height}
use Rattle.ord_tree.proofs.Resting.{IsAt-tag}
use Rattle.ord_tree.proofs.Digested.{put_digests}
use Rattle.ord_tree.proofs.Rising.{graft_nodes, graft_new}
use Rattle.ord_tree.proofs.Lifting.{sided, Sides-of, moved_tag, lifted_kept, lifted_turned}
use Rattle.ord_tree.proofs.steps.lift.Goals as goal

pub link-link-requires : goal.link-link-requires
link-link-requires g c = let r = c.requires in graft_nodes g.T.Tally.of _ _ _ r.path r.was r.now r.is.grafted c.args.n refl

pub tally_of-requires : goal.tally_of-requires
tally_of-requires g c = let r = c.requires in graft_new g.T.Tally.of _ _ _ r.path r.was r.now r.is.grafted

pub height_of-now-requires : goal.height_of-now-requires
height_of-now-requires g c = let r = c.requires in graft_new g.T.Tally.of _ _ _ r.path r.was r.now r.is.grafted

pub height_over-requires-clause-other : goal.height_over-requires-clause-other
height_over-requires-clause-other g c = let r = c.requires in (sided g.T.Tally.of _ c.args.n _ _ _ _ c.link-link.result c.in_order-a.result c.child-other.result r.path r.was r.now r.is c.link-link.ensures (c.child-other.ensures c.link-link.result c.link-link.ensures) c.in_order-a.ensures).other_there

pub height_over-requires-clause-own : goal.height_over-requires-clause-own
height_over-requires-clause-own g c =
    let r = c.requires in
    let s = sided g.T.Tally.of _ c.args.n _ _ _ _ c.link-link.result c.in_order-a.result c.child-other.result r.path r.was r.now r.is c.link-link.ensures (c.child-other.ensures c.link-link.result c.link-link.ensures) c.in_order-a.ensures in
    record { is = omega (arith, s.height_is.is, r.is.height_is); left_low = omega (arith, s.height_is.left_low, r.is.height_is); right_low = omega (arith, s.height_is.right_low, r.is.height_is) }

pub height_over-requires-clause-near : goal.height_over-requires-clause-near
height_over-requires-clause-near g c =
    let r = c.requires in
    let high : c.height_of-now.result ≡ height r.now = c.height_of-now.ensures ∙ IsAt-height g.T.Tally.of _ _ r.now r.is.grafted.new_is in
    (omega (arith, high, r.is.height_is, r.is.grafted.not_higher), omega (arith, high, r.is.height_is, r.is.grafted.not_lower))

pub height_over-requires-clause-low : goal.height_over-requires-clause-low
height_over-requires-clause-low g c = let r = c.requires in (sided g.T.Tally.of _ c.args.n _ _ _ _ c.link-link.result c.in_order-a.result c.child-other.result r.path r.was r.now r.is c.link-link.ensures (c.child-other.ensures c.link-link.result c.link-link.ensures) c.in_order-a.ensures).low

pub returns-in-Some-clause-tree : goal.returns-in-Some-clause-tree
returns-in-Some-clause-tree g c = λ path was now h.
    let s = sided g.T.Tally.of _ c.args.n _ _ _ _ c.link-link.result c.in_order-a.result c.child-other.result path was now h c.link-link.ensures (c.child-other.ensures c.link-link.result c.link-link.ensures) c.in_order-a.ensures in
    let high : c.height_of-now.result ≡ height now = c.height_of-now.ensures ∙ IsAt-height g.T.Tally.of _ _ now h.grafted.new_is in
    let tag_now = c.tally_of.ensures ∙ IsAt-tag g.T.Tally.of _ _ now h.grafted.new_is in
    let tag = moved_tag g.T.Tally.of _ c.args.n c.link-link.result c.in_order-a.result c.child-other.result path was now _ _ c.moved-tag.result s h.tag_is tag_now c.moved-tag.ensures.left c.moved-tag.ensures.right in
    let over = subst (λ (x : ℕ). IsHeightOver c.in-Some.height x (stored_height (column_of c.args.store.now c.args.col) c.child-other.result)) high c.in-Some.ensures in
    lifted_kept g.T.Tally.of _ _ c.args.n c.link-link.result c.in_order-a.result c.child-other.result path was now c.moved-tag.result c.in-Some.height s c.set_link.ensures.put tag (s.over c.in-Some.height over)

pub balance-top-requires-clause-sides : goal.balance-top-requires-clause-sides
balance-top-requires-clause-sides g c = let r = c.requires in Sides-of g.T.Tally.of _ c.args.n c.link-link.result c.in_order-a.result c.child-other.result r.path r.was r.now (sided g.T.Tally.of _ c.args.n _ _ _ _ c.link-link.result c.in_order-a.result c.child-other.result r.path r.was r.now r.is c.link-link.ensures (c.child-other.ensures c.link-link.result c.link-link.ensures) c.in_order-a.ensures)

pub set_up-requires : goal.set_up-requires
set_up-requires g c = λ m e.
    let r = c.requires in
    let b = c.balance-top.ensures.tree (Sides-of g.T.Tally.of _ c.args.n c.link-link.result c.in_order-a.result c.child-other.result r.path r.was r.now (sided g.T.Tally.of _ c.args.n _ _ _ _ c.link-link.result c.in_order-a.result c.child-other.result r.path r.was r.now r.is c.link-link.ensures (c.child-other.ensures c.link-link.result c.link-link.ensures) c.in_order-a.ensures)) in
    AreNodes-root g.T.Tally.of _ _ _ b.hangs m (b.root ∙ e)

pub returns-clause-tree : goal.returns-clause-tree
returns-clause-tree g c = λ path was now h. lifted_turned g.T.Tally.of _ _ _ c.args.n c.link-link.result c.in_order-a.result c.child-other.result path was now c.balance-top.result (sided g.T.Tally.of _ c.args.n _ _ _ _ c.link-link.result c.in_order-a.result c.child-other.result path was now h c.link-link.ensures (c.child-other.ensures c.link-link.result c.link-link.ensures) c.in_order-a.ensures) c.balance-top.ensures.tree c.set_up.ensures.up

pub returns-in-Some-clause-digests : goal.returns-in-Some-clause-digests
returns-in-Some-clause-digests g c = put_digests _ _ _ _ _ c.link-link.ensures c.set_link.ensures.put refl
