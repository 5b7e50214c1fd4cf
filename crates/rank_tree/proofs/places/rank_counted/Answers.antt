use Rattle.std.proofs.Common.{◌+◌, refl, sym, ◌∙◌, arith}
use Rattle.std.proofs.lemmas.Bool.{false≢true}
use Rattle.node_store.specs.ByNode.{column_of}
use Rattle.node_store.proofs.ByNode.{node_of_column}
use Rattle.ord_tree.specs.Spelled.{tree_of}
use Rattle.ord_tree.proofs.Removing.{whole_node}
use Rattle.rank_tree.specs.Subtrees.{size_tally}
use Rattle.rank_tree.proofs.Climbs.{climb_start, climb_parent, climb_turn, climb_end}
use Rattle.rank_tree.proofs.Whole.{whole_at, few_links, links_fit}
use Rattle.rank_tree.proofs.places.rank_counted.Goals as goal

pub link-left-requires : goal.link-left-requires
link-left-requires g c =
    let w = whole_at (column_of c.args.store.now) c.args.tree.now c.col-col.result c.args.n c.requires.tree c.requires.held c.col-col.ensures.col in
    whole_node size_tally (column_of c.args.store.now c.col-col.result) c.args.n (tree_of (column_of c.args.store.now) c.args.tree.now) w

pub size_of-rank-requires : goal.size_of-rank-requires
size_of-rank-requires g c =
    let w = whole_at (column_of c.args.store.now) c.args.tree.now c.col-col.result c.args.n c.requires.tree c.requires.held c.col-col.ensures.col in
    (climb_start _ _ c.args.n c.link-left.result _ w c.link-left.ensures refl).0

pub loop-at-init : goal.loop-at-init
loop-at-init g c =
    let w = whole_at (column_of c.args.store.now) c.args.tree.now c.col-col.result c.args.n c.requires.tree c.requires.held c.col-col.ensures.col in
    (climb_start _ _ c.args.n c.link-left.result _ w c.link-left.ensures c.size_of-rank.ensures).1

pub link-left-requires-in-Some : goal.link-left-requires-in-Some
link-left-requires-in-Some g c = climb_parent _ _ _ _ _ _ _ c.loop-at.invariant c.in-Some.parent c.in-Some.is

pub is_node-from_left-requires-clause-other : goal.is_node-from_left-requires-clause-other
is_node-from_left-requires-clause-other g c = λ m e.
    node_of_column c.args.store.now c.col-col.result m ((climb_turn _ _ _ _ _ c.in-Some.parent c.link-left-in-Some.result _ _ _ c.loop-at.invariant c.in-Some.is c.link-left-in-Some.ensures refl).left_node m e)

pub is_node-from_left-requires-clause-node : goal.is_node-from_left-requires-clause-node
is_node-from_left-requires-clause-node g c = node_of_column c.args.store.now c.col-col.result _ c.loop-at.invariant.is.has

pub overflow_add-links : goal.overflow_add-links
overflow_add-links g c =
    let t = climb_turn _ _ _ _ _ c.in-Some.parent c.link-left-in-Some.result _ _ _ c.loop-at.invariant c.in-Some.is c.link-left-in-Some.ensures refl in
    let fit = links_fit (column_of c.args.store.now) c.args.tree.now (c.loop-at.links + 1) c.requires.tree (omega (arith, t.higher)) in
    omega (arith, fit)

pub size_of-requires : goal.size_of-requires
size_of-requires g c =
    (climb_turn _ _ _ _ _ c.in-Some.parent c.link-left-in-Some.result _ _ _ c.loop-at.invariant c.in-Some.is c.link-left-in-Some.ensures refl).left_node

pub overflow_add-rank : goal.overflow_add-rank
overflow_add-rank g c =
    let t = climb_turn _ _ _ _ _ c.in-Some.parent c.link-left-in-Some.result _ _ _ c.loop-at.invariant c.in-Some.is c.link-left-in-Some.ensures c.size_of.ensures in
    omega (arith, t.fits (λ e. false≢true (sym c.if-not-from_left.true ∙ c.is_node-from_left.ensures.1 e)))

pub overflow_add-rank-then-not-from_left : goal.overflow_add-rank-then-not-from_left
overflow_add-rank-then-not-from_left g c =
    let t = climb_turn _ _ _ _ _ c.in-Some.parent c.link-left-in-Some.result _ _ _ c.loop-at.invariant c.in-Some.is c.link-left-in-Some.ensures c.size_of.ensures in
    omega (arith, t.fits (λ e. false≢true (sym c.if-not-from_left.true ∙ c.is_node-from_left.ensures.1 e)))

pub loop-at-preserved-then-not-from_left : goal.loop-at-preserved-then-not-from_left
loop-at-preserved-then-not-from_left g c =
    (climb_turn _ _ _ _ _ c.in-Some.parent c.link-left-in-Some.result _ _ _ c.loop-at.invariant c.in-Some.is c.link-left-in-Some.ensures c.size_of.ensures).from_right (λ e. false≢true (sym c.if-not-from_left.true ∙ c.is_node-from_left.ensures.1 e))

pub loop-at-preserved : goal.loop-at-preserved
loop-at-preserved g c =
    (climb_turn _ _ _ _ _ c.in-Some.parent c.link-left-in-Some.result _ _ _ c.loop-at.invariant c.in-Some.is c.link-left-in-Some.ensures refl).from_left (c.is_node-from_left.ensures.0 c.if-not-from_left.false)

pub loop-at-smaller-then-not-from_left : goal.loop-at-smaller-then-not-from_left
loop-at-smaller-then-not-from_left g c =
    let t = climb_turn _ _ _ _ _ c.in-Some.parent c.link-left-in-Some.result _ _ _ c.loop-at.invariant c.in-Some.is c.link-left-in-Some.ensures refl in
    omega (arith, t.higher)

pub loop-at-smaller : goal.loop-at-smaller
loop-at-smaller g c =
    let t = climb_turn _ _ _ _ _ c.in-Some.parent c.link-left-in-Some.result _ _ _ c.loop-at.invariant c.in-Some.is c.link-left-in-Some.ensures refl in
    omega (arith, t.higher)

pub returns-clause-rank : goal.returns-clause-rank
returns-clause-rank g c = (climb_end _ _ _ _ _ _ _ c.loop-at.invariant c.in_default.is).rank_is

pub returns-clause-few : goal.returns-clause-few
returns-clause-few g c = λ k h.
    let few = (climb_end _ _ _ _ _ _ _ c.loop-at.invariant c.in_default.is).few in
    few_links (column_of c.args.store.now) c.args.tree.now c.loop-at.links k c.requires.tree (omega (arith, few)) h
