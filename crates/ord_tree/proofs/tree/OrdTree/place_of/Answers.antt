use Rattle.std.proofs.Common.{sym, ap, ◌∙◌}
use Rattle.std.specs.Ordering.{is_le}
use Rattle.node_store.specs.ByNode.{record_of}
use Rattle.node_store.proofs.ByNode.{node_of_column}
use Rattle.ord_tree.specs.Side.{order_at}
use Rattle.ord_tree.proofs.Laws.{the_tree}
use Rattle.ord_tree.proofs.Below.{all_below, parted, parted_side}
use Rattle.ord_tree.proofs.Digested.{own_is}
use Rattle.ord_tree.proofs.Seeking.{Seeks-start, Seeks-node, Turns-from, turned_to, turned_lower, Place-from}
use Rattle.ord_tree.proofs.Sides.{order_at_total, order_at_both, IsCut_at}
use Rattle.ord_tree.proofs.tree.OrdTree.place_of.Goals as goal

pub loop-at-init : goal.loop-at-init
loop-at-init g c =
    let s = the_tree _ _ c.requires.ordered.tree in
    record { seeks = Seeks-start g.T.Tally.of _ _ _ _ _ s.hangs s.root_is; below = all_below g.T.Tally.of _ _ _ _ s.hangs s.root_is c.requires.ordered.digested }

pub link-link-requires : goal.link-link-requires
link-link-requires g c = Seeks-node g.T.Tally.of _ _ _ _ _ _ c.loop-at.invariant.seeks c.in-Some.m c.in-Some.is

pub get-requires : goal.get-requires
get-requires g c = node_of_column c.args.store.now c.args.self.now.col c.in-Some.m (record { block = c.link-link.result; is = c.link-link.ensures })

pub order_to_record-order-requires-clause-own : goal.order_to_record-order-requires-clause-own
order_to_record-order-requires-clause-own g c =
    let p = parted g.T.Tally.of _ _ _ c.in-Some.m c.link-link.result c.loop-at.invariant.below c.in-Some.is c.link-link.ensures in
    own_is (g.E.Extract.digest_of c.args.keys.now c.args.self.now.index) c.args.store.now c.args.self.now.col c.in-Some.m c.link-link.result _ p.node c.link-link.ensures c.get.ensures

pub returns : goal.returns
returns g c = Place-from g.T.Tally.of _ _ _ _ _ _ c.loop-at.invariant.seeks c.in_default.is

pub loop-at-preserved : goal.loop-at-preserved
loop-at-preserved g c =
    let records = record_of c.args.store.now in
    let compare = g.E.Extract.order_of c.args.keys.now c.args.self.now.index in
    let total = order_at_total records compare (g.met.E.Extract.order_total c.args.keys.now c.args.self.now.index c.requires.ordered.key) in
    let cut = IsCut_at (order_at records compare) total c.args.n _ c.requires.ordered.order in
    let t = Turns-from g.T.Tally.of _ _ _ _ _ _ c.in-Some.m c.link-link.result cut c.loop-at.invariant.seeks c.in-Some.is c.link-link.ensures in
    let p = parted g.T.Tally.of _ _ _ c.in-Some.m c.link-link.result c.loop-at.invariant.below c.in-Some.is c.link-link.ensures in
    let same = ap is_le (order_at_both records compare c.in-Some.m c.args.n c.get.result.now c.get-own.result.now c.get.ensures c.get-own.ensures ∙ sym c.order_to_record-order.ensures) ∙ sym c.is_le-on_right.ensures in
    rw (c.side-at.ensures c.link-link.result c.link-link.ensures) (record {
      seeks = turned_to g.T.Tally.of _ _ _ c.in-Some.m c.link-link.result c.is_le-on_right.result t same;
      below = parted_side g.T.Tally.of _ _ c.in-Some.m c.link-link.result c.is_le-on_right.result p;
    })

pub loop-at-smaller : goal.loop-at-smaller
loop-at-smaller g c =
    let records = record_of c.args.store.now in
    let compare = g.E.Extract.order_of c.args.keys.now c.args.self.now.index in
    let total = order_at_total records compare (g.met.E.Extract.order_total c.args.keys.now c.args.self.now.index c.requires.ordered.key) in
    let cut = IsCut_at (order_at records compare) total c.args.n _ c.requires.ordered.order in
    let t = Turns-from g.T.Tally.of _ _ _ _ _ _ c.in-Some.m c.link-link.result cut c.loop-at.invariant.seeks c.in-Some.is c.link-link.ensures in
    rw (c.side-at.ensures c.link-link.result c.link-link.ensures, c.in-Some.is) (turned_lower g.T.Tally.of _ _ _ c.in-Some.m c.link-link.result c.is_le-on_right.result t)
