use Rattle.std.proofs.Common.{sym, ◌∙◌}
use Rattle.std.proofs.lemmas.Bool.{false≢true}
use Rattle.node_store.specs.ByNode.{column_of}
use Rattle.node_store.proofs.ByNode.{node_of_column}
use Rattle.ord_tree.specs.Mirror.{flipped_link, flipped_tally}
use Rattle.ord_tree.proofs.Climbing.{climb_left, Climbed-start, climb_node, climb_found, climb_turn, climb_end}
use Rattle.ord_tree.proofs.Mirror.{flip_link, flip_node, unflip_node}
use Rattle.ord_tree.proofs.walk.prev_above.Goals as goal

pub loop-at-init : goal.loop-at-init
loop-at-init g c = record { climbed = λ path t h. Climbed-start (flipped_tally g.T.Tally.of) _ _ _ path t h; below = c.requires.below }

pub link-right-requires : goal.link-right-requires
link-right-requires g c =
    let r = c.requires.climbs in
    unflip_node (column_of c.args.store.now c.args.col) c.in-Some.n (climb_node (flipped_tally g.T.Tally.of) _ _ _ _ (c.loop-at.invariant.climbed r.path r.tree r.is) c.in-Some.n c.in-Some.is)

pub is_node-requires-clause-other : goal.is_node-requires-clause-other
is_node-requires-clause-other g c = λ m e.
    let r = c.requires.climbs in
    let column = column_of c.args.store.now c.args.col in
    node_of_column c.args.store.now c.args.col m (unflip_node column m (climb_left (flipped_tally g.T.Tally.of) _ _ _ _ c.in-Some.n (flipped_link c.link-right.result) (c.loop-at.invariant.climbed r.path r.tree r.is) (flip_node column c.loop-at.below c.loop-at.invariant.below) c.in-Some.is (flip_link column c.in-Some.n c.link-right.result c.link-right.ensures) m e))

pub is_node-requires-clause-node : goal.is_node-requires-clause-node
is_node-requires-clause-node g c = node_of_column c.args.store.now c.args.col _ c.loop-at.invariant.below

pub returns-then-is_node : goal.returns-then-is_node
returns-then-is_node g c = λ path t h.
    climb_found (flipped_tally g.T.Tally.of) _ _ _ path c.in-Some.n (flipped_link c.link-right.result) (c.loop-at.invariant.climbed path t h) c.in-Some.is (flip_link (column_of c.args.store.now c.args.col) c.in-Some.n c.link-right.result c.link-right.ensures) (c.is_node.ensures.0 c.if-is_node.true)

pub loop-at-preserved : goal.loop-at-preserved
loop-at-preserved g c =
    let column = column_of c.args.store.now c.args.col in
    let r = c.requires.climbs in
    record {
      climbed = λ path t h. (climb_turn (flipped_tally g.T.Tally.of) _ _ _ path c.in-Some.n (flipped_link c.link-right.result) (c.loop-at.invariant.climbed path t h) c.in-Some.is (flip_link column c.in-Some.n c.link-right.result c.link-right.ensures) (λ e. false≢true (sym c.if-is_node.false ∙ c.is_node.ensures.1 e))).next;
      below = unflip_node column c.in-Some.n (climb_node (flipped_tally g.T.Tally.of) _ _ _ _ (c.loop-at.invariant.climbed r.path r.tree r.is) c.in-Some.n c.in-Some.is);
    }

pub loop-at-smaller : goal.loop-at-smaller
loop-at-smaller g c =
    let r = c.requires.climbs in
    (climb_turn (flipped_tally g.T.Tally.of) _ _ _ r.path c.in-Some.n (flipped_link c.link-right.result) (c.loop-at.invariant.climbed r.path r.tree r.is) c.in-Some.is (flip_link (column_of c.args.store.now c.args.col) c.in-Some.n c.link-right.result c.link-right.ensures) (λ e. false≢true (sym c.if-is_node.false ∙ c.is_node.ensures.1 e))).nearer

pub returns : goal.returns
returns g c = λ path t h. climb_end (flipped_tally g.T.Tally.of) _ _ _ path (c.loop-at.invariant.climbed path t h) c.in_default.is
