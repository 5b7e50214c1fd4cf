use Rattle.std.proofs.Common.{ℕ, ◌≡◌, ◌+◌, ◌*◌, ◌^◌, ◌<◌, ◌≤◌, Option, Some, sym, ap, ◌∙◌, subst, arith}
use Rattle.node_store.specs.declared.Node.{Node}
use Rattle.node_store.specs.Column.{Column}
use Rattle.node_store.specs.ByNode.{column_of, record_of}
use Rattle.node_store.proofs.ByNode.{node_of_column}
use Rattle.ord_tree.specs.Tree.{height, stored_height}
use Rattle.ord_tree.specs.Spelled.{tree_of}
use Rattle.ord_tree.proofs.Laws.{the_tree}
use Rattle.ord_tree.proofs.Descent.{low}
use Rattle.ord_tree.proofs.Heights.{height-bound}
use Rattle.ord_tree.proofs.TreeLinks.{stored_height-is}
use Rattle.ord_tree.proofs.KeySides.{Rises-from, side_of-is}
use Rattle.ord_tree.proofs.Below.{all_below, parted, parted_side}
use Rattle.ord_tree.proofs.Digested.{own_is}
use Rattle.ord_tree.proofs.Nearing.{Nears-start, Nears-node, Nears-end, Opens-from, opened_lower}
use Rattle.ord_tree.proofs.Sought.{sought_on}
use Rattle.ord_tree.proofs.tree.OrdTree.descend.Goals as goal

pub loop-at-init : goal.loop-at-init
loop-at-init g c =
    let s = the_tree _ _ c.requires.tree in
    let index = c.args.self.now.index in
    let cuts = g.met.E.Extract.probe_cuts c.args.keys.now index c.args.probe.now c.requires.key c.requires.fits in
    let high : stored_height (column_of c.args.store.now c.args.self.now.col) c.args.self.now.root ≡ height (tree_of (column_of c.args.store.now) c.args.self.now) =
    ap (stored_height (column_of c.args.store.now c.args.self.now.col)) s.root_is ∙ stored_height-is g.T.Tally.of _ _ _ s.hangs in
    record {
      nears = Nears-start g.T.Tally.of _ _ _ _ _ s.hangs s.root_is (Rises-from (record_of c.args.store.now) (g.E.Extract.order_of c.args.keys.now index) (λ a. g.E.Extract.probe_order_of c.args.keys.now index a c.args.probe.now) _ cuts c.requires.order);
      below = all_below g.T.Tally.of _ _ _ _ s.hangs s.root_is c.requires.digested;
      few = omega (arith, high);
    }

pub link-link-requires : goal.link-link-requires
link-link-requires g c = Nears-node g.T.Tally.of _ _ _ _ _ _ c.loop-at.invariant.nears c.in-Some.n c.in-Some.is

pub get-requires : goal.get-requires
get-requires g c = node_of_column c.args.store.now c.args.self.now.col c.in-Some.n (record { block = c.link-link.result; is = c.link-link.ensures })

pub order_to_probe-order-requires-clause-own : goal.order_to_probe-order-requires-clause-own
order_to_probe-order-requires-clause-own g c =
    let p = parted g.T.Tally.of _ _ _ c.in-Some.n c.link-link.result c.loop-at.invariant.below c.in-Some.is c.link-link.ensures in
    own_is (g.E.Extract.digest_of c.args.keys.now c.args.self.now.index) c.args.store.now c.args.self.now.col c.in-Some.n c.link-link.result _ p.node c.link-link.ensures c.get.ensures

pub overflow_add-comparisons : goal.overflow_add-comparisons
overflow_add-comparisons g c =
    let s = the_tree _ _ c.requires.tree in
    let few = c.loop-at.invariant.few in
    let h = low _ s.balanced (subst (λ (k : ℕ). k < 2 ^ 64) s.len s.fits) in
    omega arith

lower_still : (comparisons here below high : ℕ) → comparisons + here ≤ high → below < here → comparisons + 1 + below ≤ high
lower_still comparisons here below high h k = omega arith

turned : (comparisons : ℕ) (c : Column) (at : Option Node) (n : Node) (below : Option Node) (high : ℕ) → comparisons + stored_height c at ≤ high → at ≡ Some n → stored_height c below < stored_height c (Some n) → comparisons + 1 + stored_height c below ≤ high
turned comparisons c at n below high h e k = lower_still comparisons (stored_height c (Some n)) (stored_height c below) high (subst (λ (o : Option Node). comparisons + stored_height c o ≤ high) e h) k

pub loop-at-preserved : goal.loop-at-preserved
loop-at-preserved g c =
    let o = Opens-from g.T.Tally.of _ _ _ _ _ c.in-Some.n c.link-link.result _ c.loop-at.invariant.nears c.in-Some.is c.link-link.ensures in
    let p = parted g.T.Tally.of _ _ _ c.in-Some.n c.link-link.result c.loop-at.invariant.below c.in-Some.is c.link-link.ensures in
    let is = side_of-is (record_of c.args.store.now) (λ a. g.E.Extract.probe_order_of c.args.keys.now c.args.self.now.index a c.args.probe.now) c.in-Some.n _ c.get.ensures ∙ sym c.order_to_probe-order.ensures in
    rw (c.side-at.ensures c.link-link.result c.link-link.ensures, c.either-found.ensures) (record {
      nears = sought_on g.T.Tally.of _ _ g.S.Sought.which _ c.in-Some.n c.link-link.result _ o c.order_to_probe-order.result is c.comes_after.result c.is.result (sym c.comes_after.ensures) (sym c.is.ensures);
      below = parted_side g.T.Tally.of _ _ c.in-Some.n c.link-link.result c.comes_after.result p;
      few = turned c.loop-at.comparisons (column_of c.args.store.now c.args.self.now.col) c.loop-at.at c.in-Some.n _ _ c.loop-at.invariant.few c.in-Some.is (opened_lower g.T.Tally.of _ _ _ _ c.in-Some.n c.link-link.result _ o c.comes_after.result);
    })

pub loop-at-smaller : goal.loop-at-smaller
loop-at-smaller g c =
    let o = Opens-from g.T.Tally.of _ _ _ _ _ c.in-Some.n c.link-link.result _ c.loop-at.invariant.nears c.in-Some.is c.link-link.ensures in
    rw (c.side-at.ensures c.link-link.result c.link-link.ensures, c.in-Some.is) (opened_lower g.T.Tally.of _ _ _ _ c.in-Some.n c.link-link.result _ o c.comes_after.result)

pub returns-clause-node : goal.returns-clause-node
returns-clause-node g c = Nears-end g.T.Tally.of _ _ _ _ _ _ c.loop-at.invariant.nears c.in_default.is

at_most : (comparisons at high k : ℕ) → comparisons + at ≤ high → high ≤ 2 * k → comparisons ≤ 2 * k
at_most comparisons at high k h e = omega arith

pub returns-clause-few : goal.returns-clause-few
returns-clause-few g c = λ k h.
    let s = the_tree _ _ c.requires.tree in
    at_most c.loop-at.comparisons _ _ k c.loop-at.invariant.few (height-bound k _ s.balanced h)
