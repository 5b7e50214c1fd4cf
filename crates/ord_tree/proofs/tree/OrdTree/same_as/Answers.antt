use Rattle.std.proofs.Common.{sym, ap, subst, ◌∙◌}
use Rattle.std.specs.Ordering.{is_lt, is_eq}
use Rattle.node_store.specs.ByNode.{column_of, record_of}
use Rattle.node_store.proofs.ByNode.{node_of_column}
use Rattle.list_model.specs.Order.{EachPair}
use Rattle.ord_tree.specs.Side.{side_of}
use Rattle.ord_tree.specs.Same.{is_kept}
use Rattle.key_extract.specs.Laws.{cuts_at}
use Rattle.ord_tree.proofs.Laws.{the_tree}
use Rattle.ord_tree.proofs.KeySides.{Rises, Rises-from, side_of-is}
use Rattle.ord_tree.proofs.Nearing.{Nears-start, Nears-node, Nears-end, Opens-from}
use Rattle.ord_tree.specs.Digests.{KeepsDigest, AreDigested}
use Rattle.ord_tree.specs.Spelled.{spelled}
use Rattle.ord_tree.proofs.Below.{all_below, parted, guide_so}
use Rattle.ord_tree.proofs.Digested.{own_is}
use Rattle.ord_tree.proofs.Excepting.{All-kept, kept_list, each_beside, guides, unguided, guide_right, guide_take, guide_left}
use Rattle.ord_tree.proofs.tree.OrdTree.same_as.Goals as goal

pub loop-at-init : goal.loop-at-init
loop-at-init g c =
    let s = the_tree _ _ c.requires.others.tree in
    let index = c.args.self.now.index in
    let compare = g.E.Extract.order_of c.args.keys.now index in
    let cuts = cuts_at (g.met.E.Extract.order_total c.args.keys.now index c.requires.others.key) c.args.row.now in
    let digest = g.E.Extract.digest_of c.args.keys.now index in
    let xs = spelled (column_of c.args.store.now) c.args.self.now in
    let kept = All-kept (is_kept c.args.except) (KeepsDigest digest c.args.store.now c.args.self.now.col) xs (subst (AreDigested digest c.args.store.now c.args.self.now.col) (kept_list c.args.except xs) c.requires.others.digested) in
    record {
      nears = Nears-start g.T.Tally.of _ _ _ _ _ s.hangs s.root_is (each_beside (is_kept c.args.except) _ _ s.distinct (subst (EachPair (Rises (side_of (record_of c.args.store.now) (λ a. compare a c.args.row.now)))) (kept_list c.args.except _) (Rises-from (record_of c.args.store.now) compare (λ a. compare a c.args.row.now) _ cuts c.requires.others.order)));
      below = all_below g.T.Tally.of _ _ _ _ s.hangs s.root_is kept;
    }

pub link-link-requires : goal.link-link-requires
link-link-requires g c = Nears-node g.T.Tally.of _ _ _ _ _ _ c.loop-at.invariant.nears c.in-Some.n c.in-Some.is

pub guide_at-requires-clause-node : goal.guide_at-requires-clause-node
guide_at-requires-clause-node g c = record { block = c.link-link.result; is = c.link-link.ensures }

pub guide_at-requires-clause-left : goal.guide_at-requires-clause-left
guide_at-requires-clause-left g c =
    let o = Opens-from g.T.Tally.of _ _ _ _ _ c.in-Some.n c.link-link.result _ c.loop-at.invariant.nears c.in-Some.is c.link-link.ensures in
    record { tree = o.left; is = o.at_left }

pub link-requires : goal.link-requires
link-requires g c = c.guide_at.ensures.node c.in-Some-guide_at.guide c.in-Some-guide_at.is

pub get-requires : goal.get-requires
get-requires g c = node_of_column c.args.store.now c.args.self.now.col c.in-Some-guide_at.guide (c.guide_at.ensures.node c.in-Some-guide_at.guide c.in-Some-guide_at.is)

pub order_to_record-order-requires-clause-own : goal.order_to_record-order-requires-clause-own
order_to_record-order-requires-clause-own g c =
    let o = Opens-from g.T.Tally.of _ _ _ _ _ c.in-Some.n c.link-link.result _ c.loop-at.invariant.nears c.in-Some.is c.link-link.ensures in
    let guided = guides g.T.Tally.of _ c.args.except _ _ c.in-Some.n c.link-link.result _ _ o (record { itself = c.guide_at.ensures.itself; excepted = c.guide_at.ensures.excepted }) c.in-Some-guide_at.guide c.in-Some-guide_at.is in
    let keeps = guide_so g.T.Tally.of _ _ c.args.except c.in-Some.n c.link-link.result _ c.in-Some-guide_at.guide (parted g.T.Tally.of _ _ _ c.in-Some.n c.link-link.result c.loop-at.invariant.below c.in-Some.is c.link-link.ensures) (record { itself = c.guide_at.ensures.itself; excepted = c.guide_at.ensures.excepted }) c.in-Some-guide_at.is in
    own_is (g.E.Extract.digest_of c.args.keys.now c.args.self.now.index) c.args.store.now c.args.self.now.col c.in-Some-guide_at.guide c.link.result _ (keeps guided.kept) c.link.ensures c.get.ensures

pub loop-at-preserved-in-None : goal.loop-at-preserved-in-None
loop-at-preserved-in-None g c =
    let o = Opens-from g.T.Tally.of _ _ _ _ _ c.in-Some.n c.link-link.result _ c.loop-at.invariant.nears c.in-Some.is c.link-link.ensures in
    record { nears = unguided g.T.Tally.of _ c.args.except _ _ c.in-Some.n c.link-link.result _ _ o (record { itself = c.guide_at.ensures.itself; excepted = c.guide_at.ensures.excepted }) c.in-None.is; below = (parted g.T.Tally.of _ _ _ c.in-Some.n c.link-link.result c.loop-at.invariant.below c.in-Some.is c.link-link.ensures).right }

pub loop-at-preserved-then-is_lt : goal.loop-at-preserved-then-is_lt
loop-at-preserved-then-is_lt g c =
    let o = Opens-from g.T.Tally.of _ _ _ _ _ c.in-Some.n c.link-link.result _ c.loop-at.invariant.nears c.in-Some.is c.link-link.ensures in
    let guided = guides g.T.Tally.of _ c.args.except _ _ c.in-Some.n c.link-link.result _ _ o (record { itself = c.guide_at.ensures.itself; excepted = c.guide_at.ensures.excepted }) c.in-Some-guide_at.guide c.in-Some-guide_at.is in
    let is = side_of-is (record_of c.args.store.now) (λ a. g.E.Extract.order_of c.args.keys.now c.args.self.now.index a c.args.row.now) c.in-Some-guide_at.guide _ c.get.ensures ∙ sym c.order_to_record-order.ensures in
    record { nears = guide_right g.T.Tally.of _ (is_kept c.args.except) _ _ c.in-Some.n c.link-link.result _ o c.in-Some-guide_at.guide guided (ap is_lt is ∙ sym c.is_lt.ensures ∙ c.if-is_lt.true); below = (parted g.T.Tally.of _ _ _ c.in-Some.n c.link-link.result c.loop-at.invariant.below c.in-Some.is c.link-link.ensures).right }

pub loop-at-preserved-then-is_eq : goal.loop-at-preserved-then-is_eq
loop-at-preserved-then-is_eq g c =
    let o = Opens-from g.T.Tally.of _ _ _ _ _ c.in-Some.n c.link-link.result _ c.loop-at.invariant.nears c.in-Some.is c.link-link.ensures in
    let guided = guides g.T.Tally.of _ c.args.except _ _ c.in-Some.n c.link-link.result _ _ o (record { itself = c.guide_at.ensures.itself; excepted = c.guide_at.ensures.excepted }) c.in-Some-guide_at.guide c.in-Some-guide_at.is in
    let is = side_of-is (record_of c.args.store.now) (λ a. g.E.Extract.order_of c.args.keys.now c.args.self.now.index a c.args.row.now) c.in-Some-guide_at.guide _ c.get.ensures ∙ sym c.order_to_record-order.ensures in
    record { nears = guide_take g.T.Tally.of _ (is_kept c.args.except) _ _ c.in-Some.n c.link-link.result _ o c.in-Some-guide_at.guide guided (ap is_eq is ∙ sym c.is_eq.ensures ∙ c.if-is_eq.true); below = (parted g.T.Tally.of _ _ _ c.in-Some.n c.link-link.result c.loop-at.invariant.below c.in-Some.is c.link-link.ensures).left }

pub loop-at-preserved : goal.loop-at-preserved
loop-at-preserved g c =
    let o = Opens-from g.T.Tally.of _ _ _ _ _ c.in-Some.n c.link-link.result _ c.loop-at.invariant.nears c.in-Some.is c.link-link.ensures in
    let guided = guides g.T.Tally.of _ c.args.except _ _ c.in-Some.n c.link-link.result _ _ o (record { itself = c.guide_at.ensures.itself; excepted = c.guide_at.ensures.excepted }) c.in-Some-guide_at.guide c.in-Some-guide_at.is in
    let is = side_of-is (record_of c.args.store.now) (λ a. g.E.Extract.order_of c.args.keys.now c.args.self.now.index a c.args.row.now) c.in-Some-guide_at.guide _ c.get.ensures ∙ sym c.order_to_record-order.ensures in
    record { nears = guide_left g.T.Tally.of _ (is_kept c.args.except) _ _ c.in-Some.n c.link-link.result _ o c.in-Some-guide_at.guide guided (ap is_lt is ∙ sym c.is_lt.ensures ∙ c.if-is_lt.false) (ap is_eq is ∙ sym c.is_eq.ensures ∙ c.if-is_eq.false); below = (parted g.T.Tally.of _ _ _ c.in-Some.n c.link-link.result c.loop-at.invariant.below c.in-Some.is c.link-link.ensures).left }

pub returns : goal.returns
returns g c = Nears-end g.T.Tally.of _ _ _ _ _ _ c.loop-at.invariant.nears c.in_default.is
