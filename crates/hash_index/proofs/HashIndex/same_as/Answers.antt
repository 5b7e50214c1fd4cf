use Rattle.std.proofs.Common.{◌∙◌, sym, ap, length, arith}
use Rattle.std.specs.Ordering.{is_eq}
use Rattle.node_store.proofs.ByNode.{node_of_column}
use Rattle.node_store.specs.ByNode.{column_of}
use Rattle.hash_index.specs.Spelled.{col_of, index_of}
use Rattle.hash_index.specs.Hashed.{side_of, others}
use Rattle.hash_index.specs.Walks.{rest_of}
use Rattle.std.specs.Prelude.{find}
use Rattle.hash_index.proofs.Spelling.{has_start}
use Rattle.hash_index.proofs.Matching.{walk_node, walk_rest, walk_step, rest_none, others_in, others_hit, others_miss, others_first, others_hashed}
use Rattle.hash_index.proofs.HashIndex.same_as.Goals as goal

pub link-tag-requires : goal.link-tag-requires
link-tag-requires g c = walk_node (column_of c.args.store.now) c.args.self.now c.loop-at.at c.in-Some.n c.loop-at.invariant.ends c.in-Some.is

pub is_other-requires-clause-node : goal.is_other-requires-clause-node
is_other-requires-clause-node g c = node_of_column c.args.store.now (col_of c.args.self.now) c.in-Some.n (walk_node (column_of c.args.store.now) c.args.self.now c.loop-at.at c.in-Some.n c.loop-at.invariant.ends c.in-Some.is)

pub is_other-requires-clause-hashed : goal.is_other-requires-clause-hashed
is_other-requires-clause-hashed g c =
    let rest = walk_rest (column_of c.args.store.now) c.args.self.now c.loop-at.at c.in-Some.n c.loop-at.invariant.ends c.in-Some.is in
    (others_first (g.E.Extract.hash_of c.args.keys.now (index_of c.args.self.now)) c.args.store.now (col_of c.args.self.now) c.args.except _ c.in-Some.n _ rest.1 c.loop-at.invariant.hashed).0

pub loop-at-smaller : goal.loop-at-smaller
loop-at-smaller g c =
    let step = walk_step (column_of c.args.store.now) c.args.self.now c.loop-at.at c.in-Some.n c.link-at.result c.loop-at.invariant.ends c.in-Some.is c.link-at.ensures in
    omega (arith, ap length step.rest)

pub loop-at-init : goal.loop-at-init
loop-at-init g c =
    let at = has_start (column_of c.args.store.now) c.args.self.now c.hash-hash.result c.node-at.result (c.node-at.ensures ∙ c.head.ensures.first) c.requires.others.chain in
    record {
      ends = at.ends;
      hashed = others_hashed c.args.store.now c.args.self.now (g.E.Extract.hash_of c.args.keys.now (index_of c.args.self.now)) c.hash-hash.result (λ a. g.E.Extract.order_of c.args.keys.now (index_of c.args.self.now) a c.args.r.now)
          (λ a e. g.met.E.Extract.same_hash c.args.keys.now (index_of c.args.self.now) a c.args.r.now c.requires.others.has_key e ∙ sym c.hash-hash.ensures) c.node-at.result at c.args.except c.requires.others.hashed;
      same = sym (others_in c.args.store.now c.args.self.now (g.E.Extract.hash_of c.args.keys.now (index_of c.args.self.now)) c.hash-hash.result (λ a. g.E.Extract.order_of c.args.keys.now (index_of c.args.self.now) a c.args.r.now)
          (λ a e. g.met.E.Extract.same_hash c.args.keys.now (index_of c.args.self.now) a c.args.r.now c.requires.others.has_key e ∙ sym c.hash-hash.ensures) c.node-at.result at c.args.except c.requires.others.hashed);
    }

pub returns-then-is_other : goal.returns-then-is_other
returns-then-is_other g c =
    let rest = walk_rest (column_of c.args.store.now) c.args.self.now c.loop-at.at c.in-Some.n c.loop-at.invariant.ends c.in-Some.is in
    sym (others_hit (λ n. is_eq (side_of (λ a. g.E.Extract.order_of c.args.keys.now (index_of c.args.self.now) a c.args.r.now) c.args.store.now n)) c.args.except c.in-Some.n rest.0 (sym c.is_other.ensures ∙ c.if-is_other.true))
    ∙ (ap (λ l. find (λ n. is_eq (side_of (λ a. g.E.Extract.order_of c.args.keys.now (index_of c.args.self.now) a c.args.r.now) c.args.store.now n)) (others c.args.except l)) (sym rest.1) ∙ c.loop-at.invariant.same)

pub loop-at-preserved : goal.loop-at-preserved
loop-at-preserved g c =
    let step = walk_step (column_of c.args.store.now) c.args.self.now c.loop-at.at c.in-Some.n c.link-at.result c.loop-at.invariant.ends c.in-Some.is c.link-at.ensures in
    record {
      ends = step.ends;
      hashed = (others_first (g.E.Extract.hash_of c.args.keys.now (index_of c.args.self.now)) c.args.store.now (col_of c.args.self.now) c.args.except _ c.in-Some.n _ step.rest c.loop-at.invariant.hashed).1;
      same = sym (others_miss (λ n. is_eq (side_of (λ a. g.E.Extract.order_of c.args.keys.now (index_of c.args.self.now) a c.args.r.now) c.args.store.now n)) c.args.except c.in-Some.n (rest_of (column_of c.args.store.now) c.args.self.now c.link-at.result.b) (sym c.is_other.ensures ∙ c.if-is_other.false))
          ∙ (ap (λ l. find (λ n. is_eq (side_of (λ a. g.E.Extract.order_of c.args.keys.now (index_of c.args.self.now) a c.args.r.now) c.args.store.now n)) (others c.args.except l)) (sym step.rest) ∙ c.loop-at.invariant.same);
    }

pub returns : goal.returns
returns g c =
    let none = ap (λ o. rest_of (column_of c.args.store.now) c.args.self.now o) c.in_default.is ∙ rest_none (column_of c.args.store.now) c.args.self.now in
    ap (λ l. find (λ n. is_eq (side_of (λ a. g.E.Extract.order_of c.args.keys.now (index_of c.args.self.now) a c.args.r.now) c.args.store.now n)) (others c.args.except l)) (sym none) ∙ c.loop-at.invariant.same
