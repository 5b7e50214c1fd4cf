use Rattle.std.proofs.Common.{sym, ◌∙◌}
use Rattle.std.proofs.lemmas.Bool.{false≢true}
use Rattle.node_store.proofs.ByNode.{node_of_column}
use Rattle.ord_tree.proofs.Climbing.{climb_left, Climbed-start, climb_node, climb_found, climb_turn, climb_end}
use Rattle.ord_tree.proofs.removal.next_above.Goals as goal

pub loop-at-init : goal.loop-at-init
loop-at-init g c = record { climbed = λ path t h. Climbed-start g.T.Tally.of _ _ _ path t h; below = c.requires.below }

pub link-left-requires : goal.link-left-requires
link-left-requires g c =
    let r = c.requires.climbs in
    climb_node g.T.Tally.of _ _ _ _ (c.loop-at.invariant.climbed r.path r.tree r.is) c.in-Some.n c.in-Some.is

pub is_node-requires-clause-other : goal.is_node-requires-clause-other
is_node-requires-clause-other g c = λ m e.
    let r = c.requires.climbs in
    node_of_column c.args.store.now c.args.col m (climb_left g.T.Tally.of _ _ _ _ c.in-Some.n c.link-left.result (c.loop-at.invariant.climbed r.path r.tree r.is) c.loop-at.invariant.below c.in-Some.is c.link-left.ensures m e)

pub is_node-requires-clause-node : goal.is_node-requires-clause-node
is_node-requires-clause-node g c = node_of_column c.args.store.now c.args.col _ c.loop-at.invariant.below

pub returns-then-is_node : goal.returns-then-is_node
returns-then-is_node g c = λ path t h. climb_found g.T.Tally.of _ _ _ path c.in-Some.n c.link-left.result (c.loop-at.invariant.climbed path t h) c.in-Some.is c.link-left.ensures (c.is_node.ensures.0 c.if-is_node.true)

pub loop-at-preserved : goal.loop-at-preserved
loop-at-preserved g c = record {
  climbed = λ path t h. (climb_turn g.T.Tally.of _ _ _ path c.in-Some.n c.link-left.result (c.loop-at.invariant.climbed path t h) c.in-Some.is c.link-left.ensures (λ e. false≢true (sym c.if-is_node.false ∙ c.is_node.ensures.1 e))).next;
  below = climb_node g.T.Tally.of _ _ _ _ (c.loop-at.invariant.climbed c.requires.climbs.path c.requires.climbs.tree c.requires.climbs.is) c.in-Some.n c.in-Some.is;
}

pub loop-at-smaller : goal.loop-at-smaller
loop-at-smaller g c =
    let r = c.requires.climbs in
    (climb_turn g.T.Tally.of _ _ _ r.path c.in-Some.n c.link-left.result (c.loop-at.invariant.climbed r.path r.tree r.is) c.in-Some.is c.link-left.ensures (λ e. false≢true (sym c.if-is_node.false ∙ c.is_node.ensures.1 e))).nearer

pub returns : goal.returns
returns g c = λ path t h. climb_end g.T.Tally.of _ _ _ path (c.loop-at.invariant.climbed path t h) c.in_default.is
