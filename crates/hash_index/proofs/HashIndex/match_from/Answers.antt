use Rattle.std.proofs.Common.{◌∙◌, sym, ap, length, arith}
use Rattle.std.specs.Ordering.{is_eq}
use Rattle.node_store.proofs.ByNode.{node_of_column}
use Rattle.node_store.specs.ByNode.{column_of}
use Rattle.hash_index.specs.Spelled.{col_of, index_of}
use Rattle.hash_index.specs.Hashed.{side_of}
use Rattle.hash_index.specs.Walks.{rest_of}
use Rattle.std.specs.Prelude.{find}
use Rattle.hash_index.proofs.Matching.{walk_node, walk_rest, walk_step, rest_none, find_hit, find_miss, hashed_rest}
use Rattle.hash_index.proofs.HashIndex.match_from.Goals as goal

pub has_key-requires-clause-node : goal.has_key-requires-clause-node
has_key-requires-clause-node g c = node_of_column c.args.store.now (col_of c.args.self.now) c.in-Some.n (walk_node (column_of c.args.store.now) c.args.self.now c.loop-at.at c.in-Some.n c.loop-at.invariant.ends c.in-Some.is)

pub returns-then-has_key : goal.returns-then-has_key
returns-then-has_key g c =
    let rest = walk_rest (column_of c.args.store.now) c.args.self.now c.loop-at.at c.in-Some.n c.loop-at.invariant.ends c.in-Some.is in
    sym (find_hit (λ n. is_eq (side_of (λ a. g.E.Extract.probe_order_of c.args.keys.now (index_of c.args.self.now) a c.args.probe.now) c.args.store.now n)) c.in-Some.n rest.0 (sym c.has_key.ensures ∙ c.if-has_key.true)) ∙ (ap (λ l. find (λ n. is_eq (side_of (λ a. g.E.Extract.probe_order_of c.args.keys.now (index_of c.args.self.now) a c.args.probe.now) c.args.store.now n)) l) (sym rest.1) ∙ c.loop-at.invariant.same)

pub loop-at-smaller : goal.loop-at-smaller
loop-at-smaller g c =
    let step = walk_step (column_of c.args.store.now) c.args.self.now c.loop-at.at c.in-Some.n c.link-at.result c.loop-at.invariant.ends c.in-Some.is c.link-at.ensures in
    omega (arith, ap length step.rest)

pub loop-at-preserved : goal.loop-at-preserved
loop-at-preserved g c =
    let step = walk_step (column_of c.args.store.now) c.args.self.now c.loop-at.at c.in-Some.n c.link-at.result c.loop-at.invariant.ends c.in-Some.is c.link-at.ensures in
    record {
      ends = step.ends;
      hashed = hashed_rest (g.E.Extract.hash_of c.args.keys.now (index_of c.args.self.now)) c.args.store.now (col_of c.args.self.now) _ c.in-Some.n _ step.rest c.loop-at.invariant.hashed;
      same = sym (find_miss (λ n. is_eq (side_of (λ a. g.E.Extract.probe_order_of c.args.keys.now (index_of c.args.self.now) a c.args.probe.now) c.args.store.now n)) c.in-Some.n _ (sym c.has_key.ensures ∙ c.if-has_key.false)) ∙ (ap (λ l. find (λ n. is_eq (side_of (λ a. g.E.Extract.probe_order_of c.args.keys.now (index_of c.args.self.now) a c.args.probe.now) c.args.store.now n)) l) (sym step.rest) ∙ c.loop-at.invariant.same);
    }

pub returns : goal.returns
returns g c =
    let none = ap (λ o. rest_of (column_of c.args.store.now) c.args.self.now o) c.in_default.is ∙ rest_none (column_of c.args.store.now) c.args.self.now in
    ap (λ l. find (λ n. is_eq (side_of (λ a. g.E.Extract.probe_order_of c.args.keys.now (index_of c.args.self.now) a c.args.probe.now) c.args.store.now n)) l) (sym none) ∙ c.loop-at.invariant.same
