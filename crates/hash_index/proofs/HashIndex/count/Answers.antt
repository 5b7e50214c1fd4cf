use Rattle.std.proofs.Common.{◌∙◌, sym, ap, length, arith}
use Rattle.std.specs.Ordering.{is_eq}
use Rattle.node_store.proofs.ByNode.{node_of_column}
use Rattle.node_store.specs.ByNode.{column_of}
use Rattle.hash_index.specs.Spelled.{col_of, index_of}
use Rattle.hash_index.specs.Hashed.{side_of}
use Rattle.hash_index.specs.Walks.{rest_of}
use Rattle.std.specs.Prelude.{count_by}
use Rattle.hash_index.proofs.Spelling.{has_start}
use Rattle.hash_index.proofs.Matching.{walk_node, walk_step, counted_in, count_hit, count_miss, hashed_here, hashed_rest, rest_hashed, rest_none, walk_rest}
use Rattle.hash_index.proofs.HashIndex.count.Goals as goal

pub link-link-requires : goal.link-link-requires
link-link-requires g c = walk_node (column_of c.args.store.now) c.args.self.now c.loop-at.at c.in-Some.n c.loop-at.invariant.ends c.in-Some.is

pub has_key-requires-clause-hashed : goal.has_key-requires-clause-hashed
has_key-requires-clause-hashed g c =
    let rest = walk_rest (column_of c.args.store.now) c.args.self.now c.loop-at.at c.in-Some.n c.loop-at.invariant.ends c.in-Some.is in
    hashed_here (g.E.Extract.hash_of c.args.keys.now (index_of c.args.self.now)) c.args.store.now (col_of c.args.self.now) _ c.in-Some.n _ rest.1 c.loop-at.invariant.hashed

pub has_key-requires-clause-node : goal.has_key-requires-clause-node
has_key-requires-clause-node g c = node_of_column c.args.store.now (col_of c.args.self.now) c.in-Some.n (walk_node (column_of c.args.store.now) c.args.self.now c.loop-at.at c.in-Some.n c.loop-at.invariant.ends c.in-Some.is)

pub loop-at-smaller : goal.loop-at-smaller
loop-at-smaller g c =
    let step = walk_step (column_of c.args.store.now) c.args.self.now c.loop-at.at c.in-Some.n c.link-link.result c.loop-at.invariant.ends c.in-Some.is c.link-link.ensures in
    omega (arith, ap length step.rest)

pub loop-at-smaller-then-has_key : goal.loop-at-smaller-then-has_key
loop-at-smaller-then-has_key g c =
    let step = walk_step (column_of c.args.store.now) c.args.self.now c.loop-at.at c.in-Some.n c.link-link.result c.loop-at.invariant.ends c.in-Some.is c.link-link.ensures in
    omega (arith, ap length step.rest)

pub loop-at-init : goal.loop-at-init
loop-at-init g c =
    let at = has_start (column_of c.args.store.now) c.args.self.now c.hash_probe-hash.result c.node-at.result (c.node-at.ensures ∙ c.head.ensures.first) c.requires.chain in
    let counted = counted_in c.args.store.now c.args.self.now (g.E.Extract.hash_of c.args.keys.now (index_of c.args.self.now)) c.hash_probe-hash.result (λ a. g.E.Extract.probe_order_of c.args.keys.now (index_of c.args.self.now) a c.args.probe.now)
    (λ a e. g.met.E.Extract.whole_hash c.args.keys.now (index_of c.args.self.now) a c.args.probe.now c.requires.has_key c.requires.whole e ∙ sym c.hash_probe-hash.ensures) c.node-at.result at c.requires.hashed in
    let hashed = rest_hashed c.args.store.now c.args.self.now (g.E.Extract.hash_of c.args.keys.now (index_of c.args.self.now)) c.hash_probe-hash.result (λ a. g.E.Extract.probe_order_of c.args.keys.now (index_of c.args.self.now) a c.args.probe.now)
    (λ a e. g.met.E.Extract.whole_hash c.args.keys.now (index_of c.args.self.now) a c.args.probe.now c.requires.has_key c.requires.whole e ∙ sym c.hash_probe-hash.ensures) c.node-at.result at c.requires.hashed in
    record { ends = at.ends; hashed = hashed; counted = omega (arith, counted) }

pub loop-at-preserved-then-has_key : goal.loop-at-preserved-then-has_key
loop-at-preserved-then-has_key g c =
    let step = walk_step (column_of c.args.store.now) c.args.self.now c.loop-at.at c.in-Some.n c.link-link.result c.loop-at.invariant.ends c.in-Some.is c.link-link.ensures in
    let rest = ap (λ l. count_by (λ n. is_eq (side_of (λ a. g.E.Extract.probe_order_of c.args.keys.now (index_of c.args.self.now) a c.args.probe.now) c.args.store.now n)) l) step.rest in
    record {
      ends = step.ends;
      hashed = hashed_rest (g.E.Extract.hash_of c.args.keys.now (index_of c.args.self.now)) c.args.store.now (col_of c.args.self.now) _ c.in-Some.n _ step.rest c.loop-at.invariant.hashed;
      counted = omega (arith, c.loop-at.invariant.counted, rest, count_hit (λ n. is_eq (side_of (λ a. g.E.Extract.probe_order_of c.args.keys.now (index_of c.args.self.now) a c.args.probe.now) c.args.store.now n)) c.in-Some.n (rest_of (column_of c.args.store.now) c.args.self.now c.link-link.result.b) (sym c.has_key.ensures ∙ c.if-has_key.true));
    }

pub loop-at-preserved : goal.loop-at-preserved
loop-at-preserved g c =
    let step = walk_step (column_of c.args.store.now) c.args.self.now c.loop-at.at c.in-Some.n c.link-link.result c.loop-at.invariant.ends c.in-Some.is c.link-link.ensures in
    let rest = ap (λ l. count_by (λ n. is_eq (side_of (λ a. g.E.Extract.probe_order_of c.args.keys.now (index_of c.args.self.now) a c.args.probe.now) c.args.store.now n)) l) step.rest in
    record {
      ends = step.ends;
      hashed = hashed_rest (g.E.Extract.hash_of c.args.keys.now (index_of c.args.self.now)) c.args.store.now (col_of c.args.self.now) _ c.in-Some.n _ step.rest c.loop-at.invariant.hashed;
      counted = omega (arith, c.loop-at.invariant.counted, rest, count_miss (λ n. is_eq (side_of (λ a. g.E.Extract.probe_order_of c.args.keys.now (index_of c.args.self.now) a c.args.probe.now) c.args.store.now n)) c.in-Some.n (rest_of (column_of c.args.store.now) c.args.self.now c.link-link.result.b) (sym c.has_key.ensures ∙ c.if-has_key.false));
    }

pub returns : goal.returns
returns g c =
    let none = ap (λ o. rest_of (column_of c.args.store.now) c.args.self.now o) c.in_default.is ∙ rest_none (column_of c.args.store.now) c.args.self.now in
    omega (arith, c.loop-at.invariant.counted, ap (λ l. count_by (λ n. is_eq (side_of (λ a. g.E.Extract.probe_order_of c.args.keys.now (index_of c.args.self.now) a c.args.probe.now) c.args.store.now n)) l) none)
