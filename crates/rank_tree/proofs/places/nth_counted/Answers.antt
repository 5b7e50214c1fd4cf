use Rattle.std.proofs.Common.{◌+◌, refl, sym, arith}
use Rattle.node_store.specs.ByNode.{column_of}
use Rattle.rank_tree.proofs.Descents.{Nears_start, near_node, near_turn}
use Rattle.rank_tree.proofs.Whole.{hangs_at, few_links, links_fit}
use Rattle.rank_tree.proofs.places.nth_counted.Goals as goal

pub loop-at-init : goal.loop-at-init
loop-at-init g c =
    let t = hangs_at (column_of c.args.store.now) c.args.tree.now c.col-col.result c.requires c.col-col.ensures.col in
    Nears_start _ _ _ _ t.hangs c.root-at.ensures t.fits

pub link-left-requires : goal.link-left-requires
link-left-requires g c = near_node _ _ _ _ _ _ c.loop-at.invariant c.in-Some.n c.in-Some.is

pub size_of-before-requires : goal.size_of-before-requires
size_of-before-requires g c = (near_turn _ _ _ _ c.in-Some.n c.link-left.result _ _ _ c.loop-at.invariant c.in-Some.is c.link-left.ensures refl).left_node

pub returns-then-rest-before-clause-node : goal.returns-then-rest-before-clause-node
returns-then-rest-before-clause-node g c =
    sym ((near_turn _ _ _ _ c.in-Some.n c.link-left.result _ _ _ c.loop-at.invariant c.in-Some.is c.link-left.ensures c.size_of-before.ensures).found c.if-rest-before.true)

pub returns-then-rest-before-clause-few : goal.returns-then-rest-before-clause-few
returns-then-rest-before-clause-few g c = λ k h.
    let t = near_turn _ _ _ _ c.in-Some.n c.link-left.result _ _ _ c.loop-at.invariant c.in-Some.is c.link-left.ensures c.size_of-before.ensures in
    few_links (column_of c.args.store.now) c.args.tree.now c.loop-at.links k c.requires (omega (arith, t.deeper)) h

pub overflow_add-links : goal.overflow_add-links
overflow_add-links g c =
    let t = near_turn _ _ _ _ c.in-Some.n c.link-left.result _ _ _ c.loop-at.invariant c.in-Some.is c.link-left.ensures c.size_of-before.ensures in
    let fit = links_fit (column_of c.args.store.now) c.args.tree.now (c.loop-at.links + 1) c.requires (omega (arith, t.deeper)) in
    omega (arith, fit)

pub loop-at-preserved-then-rest-before-2 : goal.loop-at-preserved-then-rest-before-2
loop-at-preserved-then-rest-before-2 g c =
    (near_turn _ _ _ _ c.in-Some.n c.link-left.result _ _ _ c.loop-at.invariant c.in-Some.is c.link-left.ensures c.size_of-before.ensures).left c.if-rest-before-2.true

pub loop-at-preserved : goal.loop-at-preserved
loop-at-preserved g c =
    (near_turn _ _ _ _ c.in-Some.n c.link-left.result _ _ _ c.loop-at.invariant c.in-Some.is c.link-left.ensures c.size_of-before.ensures).right (omega (arith, c.if-rest-before-2.false, c.if-rest-before.false))

pub returns-clause-few : goal.returns-clause-few
returns-clause-few g c = λ k h.
    let few = c.loop-at.invariant.few in
    few_links (column_of c.args.store.now) c.args.tree.now c.loop-at.links k c.requires (omega (arith, few)) h
