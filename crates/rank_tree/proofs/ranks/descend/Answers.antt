use Rattle.std.proofs.Common.{refl, ap, sym, ◌∙◌, arith}
use Rattle.node_store.specs.ByNode.{column_of, record_of}
use Rattle.node_store.proofs.ByNode.{node_of_column}
use Rattle.ord_tree.proofs.KeySides.{Rises-from, side_of-is}
use Rattle.ord_tree.proofs.Below.{all_below, parted}
use Rattle.ord_tree.proofs.Digested.{own_is, digested_at}
use Rattle.ord_tree.specs.Spelled.{spelled, col_of, index_of}
use Rattle.rank_tree.specs.Subtrees.{size_tally}
use Rattle.rank_tree.proofs.KeyRanks.{Ranks_start, rank_node, rank_turn, rank_end}
use Rattle.rank_tree.proofs.Whole.{hangs_at}
use Rattle.rank_tree.proofs.ranks.descend.Goals as goal

pub loop-at-init : goal.loop-at-init
loop-at-init g c =
    let t = hangs_at (column_of c.args.store.now) c.args.tree.now c.col-col.result c.requires.tree c.col-col.ensures.col in
    let index = index_of c.args.tree.now in
    let cuts = g.met.E.Extract.probe_cuts c.args.keys.now index c.args.probe.now c.requires.key c.requires.fits in
    let order = Rises-from (record_of c.args.store.now) (g.E.Extract.order_of c.args.keys.now index) (λ a. g.E.Extract.probe_order_of c.args.keys.now index a c.args.probe.now) (spelled (column_of c.args.store.now) c.args.tree.now) cuts c.requires.order in
    let digested = digested_at c.args.store.now (g.E.Extract.digest_of c.args.keys.now) c.index-index.result index c.col-col.result (col_of c.args.tree.now) _ _ c.index-index.ensures c.col-col.ensures.col refl c.requires.digested in
    record { ranks = Ranks_start _ _ _ _ _ t.hangs c.root-at.ensures order t.fits; below = all_below size_tally _ _ _ _ t.hangs c.root-at.ensures digested }

pub link-left-requires : goal.link-left-requires
link-left-requires g c = rank_node _ _ _ _ _ _ _ c.loop-at.invariant.ranks c.in-Some.n c.in-Some.is

pub get-requires : goal.get-requires
get-requires g c = node_of_column c.args.store.now c.col-col.result c.in-Some.n (record { block = c.link-left.result; is = c.link-left.ensures })

pub order_to_probe-order-requires-clause-own : goal.order_to_probe-order-requires-clause-own
order_to_probe-order-requires-clause-own g c =
    let p = parted size_tally _ _ _ c.in-Some.n c.link-left.result c.loop-at.invariant.below c.in-Some.is c.link-left.ensures in
    own_is (g.E.Extract.digest_of c.args.keys.now c.index-index.result) c.args.store.now c.col-col.result c.in-Some.n c.link-left.result _ p.node c.link-left.ensures c.get.ensures

pub size_of-requires : goal.size_of-requires
size_of-requires g c =
    (rank_turn _ _ _ _ _ c.in-Some.n _ c.link-left.result _ _ _ _ c.loop-at.invariant.ranks c.in-Some.is refl c.link-left.ensures refl refl).left_node

pub overflow_add-rank : goal.overflow_add-rank
overflow_add-rank g c =
    let t = rank_turn _ _ _ _ _ c.in-Some.n _ c.link-left.result _ _ _ _ c.loop-at.invariant.ranks c.in-Some.is refl c.link-left.ensures c.size_of.ensures refl in
    omega (arith, t.fits)

pub overflow_add-rank-then-is_first : goal.overflow_add-rank-then-is_first
overflow_add-rank-then-is_first g c =
    let t = rank_turn _ _ _ _ _ c.in-Some.n _ c.link-left.result _ _ _ _ c.loop-at.invariant.ranks c.in-Some.is refl c.link-left.ensures c.size_of.ensures refl in
    omega (arith, t.fits)

pub loop-at-preserved-then-is_first : goal.loop-at-preserved-then-is_first
loop-at-preserved-then-is_first g c =
    let stands = side_of-is (record_of c.args.store.now) (λ a. g.E.Extract.probe_order_of c.args.keys.now (index_of c.args.tree.now) a c.args.probe.now) c.in-Some.n c.get.result.now c.get.ensures
    ∙ sym (c.order_to_probe-order.ensures ∙ ap (λ k. g.E.Extract.probe_order_of c.args.keys.now k c.get.result.now c.args.probe.now) c.index-index.ensures) in
    record {
      ranks = (rank_turn _ _ _ _ _ c.in-Some.n _ c.link-left.result _ _ _ _ c.loop-at.invariant.ranks c.in-Some.is stands c.link-left.ensures c.size_of.ensures c.is_eq-met.ensures).right (sym c.is_first.ensures ∙ c.if-is_first.true);
      below = (parted size_tally _ _ _ c.in-Some.n c.link-left.result c.loop-at.invariant.below c.in-Some.is c.link-left.ensures).right;
    }

pub loop-at-preserved : goal.loop-at-preserved
loop-at-preserved g c =
    let stands = side_of-is (record_of c.args.store.now) (λ a. g.E.Extract.probe_order_of c.args.keys.now (index_of c.args.tree.now) a c.args.probe.now) c.in-Some.n c.get.result.now c.get.ensures
    ∙ sym (c.order_to_probe-order.ensures ∙ ap (λ k. g.E.Extract.probe_order_of c.args.keys.now k c.get.result.now c.args.probe.now) c.index-index.ensures) in
    record {
      ranks = (rank_turn _ _ _ _ _ c.in-Some.n _ c.link-left.result _ _ _ _ c.loop-at.invariant.ranks c.in-Some.is stands c.link-left.ensures refl c.is_eq-met.ensures).left (sym c.is_first.ensures ∙ c.if-is_first.false);
      below = (parted size_tally _ _ _ c.in-Some.n c.link-left.result c.loop-at.invariant.below c.in-Some.is c.link-left.ensures).left;
    }

pub returns-clause-rank : goal.returns-clause-rank
returns-clause-rank g c = (rank_end _ _ _ _ _ _ _ c.loop-at.invariant.ranks c.in_default.is).rank_is

pub returns-clause-met : goal.returns-clause-met
returns-clause-met g c = (rank_end _ _ _ _ _ _ _ c.loop-at.invariant.ranks c.in_default.is).met_is
