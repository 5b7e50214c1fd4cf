use Rattle.std.proofs.Common.{sym, ap, ◌∙◌}
use Rattle.std.specs.Ordering.{is_lt}
use Rattle.node_store.specs.ByNode.{record_of}
use Rattle.node_store.proofs.ByNode.{node_of_column}
use Rattle.key_extract.specs.Laws.{cuts_at}
use Rattle.ord_tree.specs.Side.{side_of}
use Rattle.ord_tree.specs.Seek.{Same}
use Rattle.ord_tree.proofs.Laws.{the_tree}
use Rattle.ord_tree.proofs.Below.{all_below, parted, parted_side}
use Rattle.ord_tree.proofs.Digested.{own_is}
use Rattle.ord_tree.proofs.FreePlaces.{comes_start, comes_on, comes_to, comes_end, IsCut_before, last_at_most}
use Rattle.ord_tree.proofs.KeySides.{Rises-from, side_of-is}
use Rattle.ord_tree.proofs.Nearing.{Nears-start, Nears-node, Nears-end, Opens-from, opened_lower}
use Rattle.ord_tree.proofs.Sought.{sought_on}
use Rattle.ord_tree.proofs.tree.OrdTree.free_place.Goals as goal

pub loop-at-init : goal.loop-at-init
loop-at-init g c =
    let s = the_tree _ _ c.requires.tree in
    let index = c.args.self.now.index in
    let compare = g.E.Extract.order_of c.args.keys.now index in
    let cuts = cuts_at (g.met.E.Extract.order_total c.args.keys.now index c.requires.key) c.args.row.now in
    record {
      nears = Nears-start g.T.Tally.of _ _ _ _ _ s.hangs s.root_is (Rises-from (record_of c.args.store.now) compare (λ a. compare a c.args.row.now) _ cuts c.requires.order);
      comes = comes_start g.T.Tally.of _ _ _ _ s.hangs s.root_is;
      below = all_below g.T.Tally.of _ _ _ _ s.hangs s.root_is c.requires.digested;
    }

pub link-link-requires : goal.link-link-requires
link-link-requires g c = Nears-node g.T.Tally.of _ _ _ _ _ _ c.loop-at.invariant.nears c.in-Some.n c.in-Some.is

pub get-requires : goal.get-requires
get-requires g c = node_of_column c.args.store.now c.args.self.now.col c.in-Some.n (record { block = c.link-link.result; is = c.link-link.ensures })

pub order_to_record-order-requires-clause-own : goal.order_to_record-order-requires-clause-own
order_to_record-order-requires-clause-own g c =
    let p = parted g.T.Tally.of _ _ _ c.in-Some.n c.link-link.result c.loop-at.invariant.below c.in-Some.is c.link-link.ensures in
    own_is (g.E.Extract.digest_of c.args.keys.now c.args.self.now.index) c.args.store.now c.args.self.now.col c.in-Some.n c.link-link.result _ p.node c.link-link.ensures c.get.ensures

pub loop-at-preserved : goal.loop-at-preserved
loop-at-preserved g c =
    let index = c.args.self.now.index in
    let compare = g.E.Extract.order_of c.args.keys.now index in
    let cuts = cuts_at (g.met.E.Extract.order_total c.args.keys.now index c.requires.key) c.args.row.now in
    let o = Opens-from g.T.Tally.of _ _ _ _ _ c.in-Some.n c.link-link.result _ c.loop-at.invariant.nears c.in-Some.is c.link-link.ensures in
    let p = parted g.T.Tally.of _ _ _ c.in-Some.n c.link-link.result c.loop-at.invariant.below c.in-Some.is c.link-link.ensures in
    let is = side_of-is (record_of c.args.store.now) (λ a. compare a c.args.row.now) c.in-Some.n _ c.get.ensures ∙ sym c.order_to_record-order.ensures in
    let on = comes_on g.T.Tally.of _ _ _ _ _ c.in-Some.n c.link-link.result (IsCut_before (record_of c.args.store.now) compare (λ a. compare a c.args.row.now) _ cuts c.requires.order) c.loop-at.invariant.comes c.in-Some.is c.link-link.ensures in
    let lt = sym c.is_lt-before.ensures in
    rw (c.side-at.ensures c.link-link.result c.link-link.ensures, c.either-last.ensures, c.either-found.ensures) (record {
      nears = sought_on g.T.Tally.of _ _ Same _ c.in-Some.n c.link-link.result _ o c.order_to_record-order.result is c.is_lt-before.result c.is_eq.result lt (sym c.is_eq.ensures);
      comes = comes_to g.T.Tally.of _ _ _ _ c.in-Some.n c.link-link.result on c.is_lt-before.result (ap is_lt is ∙ lt);
      below = parted_side g.T.Tally.of _ _ c.in-Some.n c.link-link.result c.is_lt-before.result p;
    })

pub loop-at-smaller : goal.loop-at-smaller
loop-at-smaller g c =
    let o = Opens-from g.T.Tally.of _ _ _ _ _ c.in-Some.n c.link-link.result _ c.loop-at.invariant.nears c.in-Some.is c.link-link.ensures in
    rw (c.side-at.ensures c.link-link.result c.link-link.ensures, c.in-Some.is) (opened_lower g.T.Tally.of _ _ _ _ c.in-Some.n c.link-link.result _ o c.is_lt-before.result)

pub returns-in-None-clause-free : goal.returns-in-None-clause-free
returns-in-None-clause-free g c = sym (Nears-end g.T.Tally.of _ _ _ _ _ _ c.loop-at.invariant.nears c.in_default.is) ∙ c.in-None.is

pub returns-in-None-clause-place : goal.returns-in-None-clause-place
returns-in-None-clause-place g c =
    let side = side_of (record_of c.args.store.now) (λ a. g.E.Extract.order_of c.args.keys.now c.args.self.now.index a c.args.row.now) in
    let none = sym (Nears-end g.T.Tally.of _ _ _ _ _ _ c.loop-at.invariant.nears c.in_default.is) ∙ c.in-None.is in
    comes_end g.T.Tally.of _ _ _ _ _ c.loop-at.invariant.comes c.in_default.is ∙ last_at_most side _ none
