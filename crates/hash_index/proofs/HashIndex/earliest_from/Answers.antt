use Rattle.std.proofs.Common.{◌≡◌, ◌∙◌, refl, sym, ap, subst, length, arith, Some}
use Rattle.std.specs.Ordering.{is_eq}
use Rattle.node_store.proofs.ByNode.{node_of_column}
use Rattle.node_store.specs.ByNode.{column_of}
use Rattle.hash_index.specs.Earliest.{earliest_of}
use Rattle.hash_index.specs.Spelled.{col_of, index_of}
use Rattle.hash_index.specs.Hashed.{side_of, matches}
use Rattle.hash_index.specs.Walks.{rest_of}
use Rattle.hash_index.proofs.Matching.{walk_node, walk_rest, walk_step, rest_none, hashed_here, hashed_rest}
use Rattle.hash_index.proofs.AddedFirst.{earlier_has, least_hit, least_miss}
use Rattle.node_store.specs.Store.{IsNodeOf, age_of}
use Rattle.hash_index.proofs.HashIndex.earliest_from.Goals as goal

pub link-link-requires : goal.link-link-requires
link-link-requires g c = walk_node (column_of c.args.store.now) c.args.self.now c.loop-at.at c.in-Some.n c.loop-at.invariant.ends c.in-Some.is

pub has_key-requires-clause-hashed : goal.has_key-requires-clause-hashed
has_key-requires-clause-hashed g c =
    let rest = walk_rest (column_of c.args.store.now) c.args.self.now c.loop-at.at c.in-Some.n c.loop-at.invariant.ends c.in-Some.is in
    hashed_here (g.E.Extract.hash_of c.args.keys.now (index_of c.args.self.now)) c.args.store.now (col_of c.args.self.now) _ c.in-Some.n _ rest.1 c.loop-at.invariant.hashed

pub has_key-requires-clause-node : goal.has_key-requires-clause-node
has_key-requires-clause-node g c = node_of_column c.args.store.now (col_of c.args.self.now) c.in-Some.n (walk_node (column_of c.args.store.now) c.args.self.now c.loop-at.at c.in-Some.n c.loop-at.invariant.ends c.in-Some.is)

pub earlier-requires-clause-first : goal.earlier-requires-clause-first
earlier-requires-clause-first g c = c.loop-at.invariant.nodes

pub earlier-requires-clause-node : goal.earlier-requires-clause-node
earlier-requires-clause-node g c = node_of_column c.args.store.now (col_of c.args.self.now) c.in-Some.n (walk_node (column_of c.args.store.now) c.args.self.now c.loop-at.at c.in-Some.n c.loop-at.invariant.ends c.in-Some.is)

pub loop-at-init : goal.loop-at-init
loop-at-init g c = record { ends = c.requires.ends; hashed = c.requires.hashed; nodes = λ m e. absurd (cc); least = refl }

pub loop-at-smaller : goal.loop-at-smaller
loop-at-smaller g c =
    let step = walk_step (column_of c.args.store.now) c.args.self.now c.loop-at.at c.in-Some.n c.link-link.result c.loop-at.invariant.ends c.in-Some.is c.link-link.ensures in
    omega (arith, ap length step.rest)

pub loop-at-smaller-then-has_key : goal.loop-at-smaller-then-has_key
loop-at-smaller-then-has_key g c =
    let step = walk_step (column_of c.args.store.now) c.args.self.now c.loop-at.at c.in-Some.n c.link-link.result c.loop-at.invariant.ends c.in-Some.is c.link-link.ensures in
    omega (arith, ap length step.rest)

pub loop-at-preserved-then-has_key : goal.loop-at-preserved-then-has_key
loop-at-preserved-then-has_key g c =
    let side = (side_of (λ a. g.E.Extract.probe_order_of c.args.keys.now (index_of c.args.self.now) a c.args.probe.now) c.args.store.now) in
    let step = walk_step (column_of c.args.store.now) c.args.self.now c.loop-at.at c.in-Some.n c.link-link.result c.loop-at.invariant.ends c.in-Some.is c.link-link.ensures in
    let rest = rest_of (column_of c.args.store.now) c.args.self.now c.link-link.result.b in
    record {
      ends = step.ends;
      hashed = hashed_rest (g.E.Extract.hash_of c.args.keys.now (index_of c.args.self.now)) c.args.store.now (col_of c.args.self.now) _ c.in-Some.n _ step.rest c.loop-at.invariant.hashed;
      nodes = λ m e.
          let same : c.earlier.result ≡ m = cc in
          subst (IsNodeOf c.args.store.now) (sym c.earlier.ensures ∙ same)
          (earlier_has (age_of c.args.store.now) (IsNodeOf c.args.store.now) c.loop-at.first c.in-Some.n c.loop-at.invariant.nodes
          (node_of_column c.args.store.now (col_of c.args.self.now) c.in-Some.n (walk_node (column_of c.args.store.now) c.args.self.now c.loop-at.at c.in-Some.n c.loop-at.invariant.ends c.in-Some.is)));
      least = ap (λ m. earliest_of (age_of c.args.store.now) (Some m) (matches side rest)) c.earlier.ensures
          ∙ (sym (least_hit (age_of c.args.store.now) (λ n. is_eq (side n)) c.loop-at.first c.in-Some.n rest (sym c.has_key.ensures ∙ c.if-has_key.true))
          ∙ (ap (λ l. earliest_of (age_of c.args.store.now) c.loop-at.first (matches side l)) (sym step.rest) ∙ c.loop-at.invariant.least));
    }

pub loop-at-preserved : goal.loop-at-preserved
loop-at-preserved g c =
    let side = (side_of (λ a. g.E.Extract.probe_order_of c.args.keys.now (index_of c.args.self.now) a c.args.probe.now) c.args.store.now) in
    let step = walk_step (column_of c.args.store.now) c.args.self.now c.loop-at.at c.in-Some.n c.link-link.result c.loop-at.invariant.ends c.in-Some.is c.link-link.ensures in
    let rest = rest_of (column_of c.args.store.now) c.args.self.now c.link-link.result.b in
    record {
      ends = step.ends;
      hashed = hashed_rest (g.E.Extract.hash_of c.args.keys.now (index_of c.args.self.now)) c.args.store.now (col_of c.args.self.now) _ c.in-Some.n _ step.rest c.loop-at.invariant.hashed;
      nodes = c.loop-at.invariant.nodes;
      least = sym (least_miss (age_of c.args.store.now) (λ n. is_eq (side n)) c.loop-at.first c.in-Some.n rest (sym c.has_key.ensures ∙ c.if-has_key.false))
          ∙ (ap (λ l. earliest_of (age_of c.args.store.now) c.loop-at.first (matches side l)) (sym step.rest) ∙ c.loop-at.invariant.least);
    }

pub returns : goal.returns
returns g c =
    let side = (side_of (λ a. g.E.Extract.probe_order_of c.args.keys.now (index_of c.args.self.now) a c.args.probe.now) c.args.store.now) in
    let none = ap (λ o. rest_of (column_of c.args.store.now) c.args.self.now o) c.in_default.is ∙ rest_none (column_of c.args.store.now) c.args.self.now in
    ap (λ l. earliest_of (age_of c.args.store.now) c.loop-at.first (matches side l)) (sym none) ∙ c.loop-at.invariant.least
