use Rattle.std.proofs.Common.{refl, ◌∙◌}
use Rattle.node_store.proofs.ByNode.{node_of_column}
use Rattle.ord_tree.proofs.Rising.{Carried-start, at_node, new_node, left_node, lifts, turn, finish}
use Rattle.ord_tree.proofs.Resting.{rest}
use Rattle.ord_tree.proofs.steps.climb.Goals as goal

pub loop-link-init : goal.loop-link-init
loop-link-init g c = record {
  carried = λ path was now h k. Carried-start g.T.Tally.of _ path was now _ _ _ h k;
  old = c.requires.old;
  nodes = λ m h. h;
  digests = λ m. refl;
  others = λ j h. refl;
  contents = refl;
}

pub is_like-requires-clause-new : goal.is_like-requires-clause-new
is_like-requires-clause-new g c =
    let r = c.requires.hung in
    new_node g.T.Tally.of _ _ _ _ _ _ _ _ (c.loop-link.invariant.carried r.path r.was r.now r.is r.hangs)

pub returns-then-is_like-clause-tree : goal.returns-then-is_like-clause-tree
returns-then-is_like-clause-tree g c = λ path was now h k e. rest g.T.Tally.of _ _ path now _ _ _ _ _ (c.loop-link.invariant.carried path was now h k) (c.is_like.ensures.0 c.if-is_like.true) e

pub link-above-requires : goal.link-above-requires
link-above-requires g c =
    let r = c.requires.hung in
    at_node g.T.Tally.of _ _ _ _ _ _ _ _ (c.loop-link.invariant.carried r.path r.was r.now r.is r.hangs) c.in-Some.n c.in-Some.is

pub is_node-on_right-requires-clause-other : goal.is_node-on_right-requires-clause-other
is_node-on_right-requires-clause-other g c = λ m e.
    let r = c.requires.hung in
    node_of_column c.loop-link.store c.args.col m (left_node g.T.Tally.of _ _ _ _ _ _ _ _ _ c.link-above.result (c.loop-link.invariant.carried r.path r.was r.now r.is r.hangs) c.loop-link.invariant.old c.in-Some.is c.link-above.ensures m e)

pub is_node-on_right-requires-clause-node : goal.is_node-on_right-requires-clause-node
is_node-on_right-requires-clause-node g c = node_of_column c.loop-link.store c.args.col _ c.loop-link.invariant.old

pub lift-top-requires : goal.lift-top-requires
lift-top-requires g c =
    let r = c.requires.hung in
    let k = c.loop-link.invariant.carried r.path r.was r.now r.is r.hangs in
    record {
      path = k.path;
      was = k.was;
      now = k.now;
      is = lifts g.T.Tally.of _ _ r.path r.now _ _ _ _ _ c.link-above.result _ k c.in-Some.is c.link-above.ensures c.is_node-on_right.ensures.0 c.is_node-on_right.ensures.1;
    }

pub loop-link-smaller : goal.loop-link-smaller
loop-link-smaller g c =
    let r = c.requires.hung in
    let k = c.loop-link.invariant.carried r.path r.was r.now r.is r.hangs in
    let s = lifts g.T.Tally.of _ _ r.path r.now _ _ _ _ _ c.link-above.result _ k c.in-Some.is c.link-above.ensures c.is_node-on_right.ensures.0 c.is_node-on_right.ensures.1 in
    (turn g.T.Tally.of _ _ _ r.path r.now _ _ _ _ _ c.link-above.result c.lift-top.result k c.in-Some.is c.link-above.ensures (c.lift-top.ensures.tree k.path k.was k.now s)).smaller

pub loop-link-preserved : goal.loop-link-preserved
loop-link-preserved g c = record {
  carried = λ path was now h up.
      let k = c.loop-link.invariant.carried path was now h up in
      let s = lifts g.T.Tally.of _ _ path now _ _ _ _ _ c.link-above.result _ k c.in-Some.is c.link-above.ensures c.is_node-on_right.ensures.0 c.is_node-on_right.ensures.1 in
      (turn g.T.Tally.of _ _ _ path now _ _ _ _ _ c.link-above.result c.lift-top.result k c.in-Some.is c.link-above.ensures (c.lift-top.ensures.tree k.path k.was k.now s)).carried;
  old = c.lift-top.ensures.nodes _ (at_node g.T.Tally.of _ _ _ _ _ _ _ _ (c.loop-link.invariant.carried c.requires.hung.path c.requires.hung.was c.requires.hung.now c.requires.hung.is c.requires.hung.hangs) c.in-Some.n c.in-Some.is);
  nodes = λ m h. c.lift-top.ensures.nodes m (c.loop-link.invariant.nodes m h);
  digests = λ m. c.lift-top.ensures.digests m ∙ c.loop-link.invariant.digests m;
  others = λ j h. c.lift-top.ensures.others j h ∙ c.loop-link.invariant.others j h;
  contents = c.lift-top.ensures.contents ∙ c.loop-link.invariant.contents;
}

pub returns-clause-tree : goal.returns-clause-tree
returns-clause-tree g c = λ path was now h up e. finish g.T.Tally.of _ _ path now _ _ _ _ (c.loop-link.invariant.carried path was now h up) c.in_default.is
