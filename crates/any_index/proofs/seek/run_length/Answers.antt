use Rattle.std.proofs.Common.{◌≡◌, ◌+◌, ap, sym, ◌∙◌, arith, slice_get}
use Rattle.std.proofs.lemmas.Bool.{false≢true}
use Rattle.list_model.specs.Place.{below}
use Rattle.node_store.specs.ByNode.{column_of}
use Rattle.ord_tree.specs.Stored.{nodes_of, side_in}
use Rattle.ord_tree.proofs.Laws.{Spells_distinct, Holds_at, node_held}
use Rattle.any_index.proofs.Runs.{run_ends, run_out, run_on, next_is, few_nodes, count_few}
use Rattle.any_index.proofs.seek.run_length.Goals as goal

pub is_node-requires-clause-other : goal.is_node-requires-clause-other
is_node-requires-clause-other g c = λ m e. node_held c.args.store.now c.args.tree.now m c.requires.tree (Holds_at _ _ m (sym c.upper-end.ensures ∙ e))

pub is_node-requires-clause-node : goal.is_node-requires-clause-node
is_node-requires-clause-node g c = node_held c.args.store.now c.args.tree.now c.in-Some.n c.requires.tree (Holds_at _ _ c.in-Some.n (sym c.loop-at.invariant.place ∙ c.in-Some.is))

pub returns-then-is_node : goal.returns-then-is_node
returns-then-is_node g c =
    run_ends (side_in g.E.Extract c.args.tree.now c.args.store.now c.args.keys.now c.args.probe.now) (nodes_of c.args.tree.now c.args.store.now) (Spells_distinct _ _ _ c.requires.tree) c.loop-at.count c.in-Some.n
    (sym c.loop-at.invariant.place ∙ c.in-Some.is) (sym c.upper-end.ensures ∙ c.is_node.ensures.0 c.if-is_node.true)

pub overflow_add-count : goal.overflow_add-count
overflow_add-count g c =
    let side = side_in g.E.Extract c.args.tree.now c.args.store.now c.args.keys.now c.args.probe.now in
    let xs = nodes_of c.args.tree.now c.args.store.now in
    let more = run_on side xs (Spells_distinct _ _ _ c.requires.tree) c.loop-at.count c.in-Some.n (sym c.loop-at.invariant.place ∙ c.in-Some.is) (λ e. false≢true (sym c.if-is_node.false ∙ c.is_node.ensures.1 (c.upper-end.ensures ∙ e))) c.loop-at.invariant.few in
    omega (arith, more, count_few side xs, few_nodes (column_of c.args.store.now) c.args.tree.now c.requires.tree)

pub next-at-requires : goal.next-at-requires
next-at-requires g c = record { tree = c.requires.tree; held = Holds_at _ _ c.in-Some.n (sym c.loop-at.invariant.place ∙ c.in-Some.is) }

pub loop-at-smaller : goal.loop-at-smaller
loop-at-smaller g c =
    let side = side_in g.E.Extract c.args.tree.now c.args.store.now c.args.keys.now c.args.probe.now in
    let xs = nodes_of c.args.tree.now c.args.store.now in
    let more = run_on side xs (Spells_distinct _ _ _ c.requires.tree) c.loop-at.count c.in-Some.n (sym c.loop-at.invariant.place ∙ c.in-Some.is) (λ e. false≢true (sym c.if-is_node.false ∙ c.is_node.ensures.1 (c.upper-end.ensures ∙ e))) c.loop-at.invariant.few in
    omega (arith, more)

pub loop-at-init : goal.loop-at-init
loop-at-init g c =
    let side = side_in g.E.Extract c.args.tree.now c.args.store.now c.args.keys.now c.args.probe.now in
    let xs = nodes_of c.args.tree.now c.args.store.now in
    let e : below side xs ≡ below side xs + 0 = omega arith in
    record { place = c.lower-at.ensures ∙ ap (slice_get xs) e; few = omega arith }

pub loop-at-preserved : goal.loop-at-preserved
loop-at-preserved g c =
    let side = side_in g.E.Extract c.args.tree.now c.args.store.now c.args.keys.now c.args.probe.now in
    let xs = nodes_of c.args.tree.now c.args.store.now in
    let distinct = Spells_distinct _ _ _ c.requires.tree in
    let here = sym c.loop-at.invariant.place ∙ c.in-Some.is in
    let e : (below side xs + c.loop-at.count) + 1 ≡ below side xs + (c.loop-at.count + 1) = omega arith in
    record {
      place = c.next-at.ensures ∙ (next_is xs (below side xs + c.loop-at.count) c.in-Some.n distinct here ∙ ap (slice_get xs) e);
      few = run_on side xs distinct c.loop-at.count c.in-Some.n here (λ e. false≢true (sym c.if-is_node.false ∙ c.is_node.ensures.1 (c.upper-end.ensures ∙ e))) c.loop-at.invariant.few;
    }

pub returns : goal.returns
returns g c =
    run_out (side_in g.E.Extract c.args.tree.now c.args.store.now c.args.keys.now c.args.probe.now) (nodes_of c.args.tree.now c.args.store.now) (Spells_distinct _ _ _ c.requires.tree) c.loop-at.count
    (sym c.loop-at.invariant.place ∙ c.in_default.is) c.loop-at.invariant.few
