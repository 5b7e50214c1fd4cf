use Rattle.std.proofs.Common.{◌∙◌, sym, ap}
use Rattle.std.specs.Ordering.{is_eq}
use Rattle.std.specs.Prelude.{find, slice_get}
use Rattle.node_store.specs.ByNode.{column_of}
use Rattle.node_store.proofs.ByNode.{node_of_column}
use Rattle.hash_index.specs.Heads.{first_in}
use Rattle.hash_index.specs.Spelled.{col_of, index_of}
use Rattle.hash_index.specs.Hashed.{side_of}
use Rattle.hash_index.specs.Walks.{rest_of}
use Rattle.hash_index.proofs.Heads.{hinted_first}
use Rattle.hash_index.proofs.Spelling.{has_start}
use Rattle.hash_index.proofs.Matching.{walk_node, walk_rest, find_hit, first_passed, matched_in, rest_hashed}
use Rattle.hash_index.proofs.HashIndex.first_of.Goals as goal

pub match_from-requires-clause-ends : goal.match_from-requires-clause-ends
match_from-requires-clause-ends g c = (has_start (column_of c.args.store.now) c.args.self.now c.hash_probe-hash.result c.node.result (c.node.ensures ∙ c.head-head.ensures.first) c.requires.chain).ends

pub match_from-requires-clause-hashed : goal.match_from-requires-clause-hashed
match_from-requires-clause-hashed g c =
    let at = has_start (column_of c.args.store.now) c.args.self.now c.hash_probe-hash.result c.node.result (c.node.ensures ∙ c.head-head.ensures.first) c.requires.chain in
    rest_hashed c.args.store.now c.args.self.now (g.E.Extract.hash_of c.args.keys.now (index_of c.args.self.now)) c.hash_probe-hash.result (λ a. g.E.Extract.probe_order_of c.args.keys.now (index_of c.args.self.now) a c.args.probe.now)
    (λ a e. g.met.E.Extract.whole_hash c.args.keys.now (index_of c.args.self.now) a c.args.probe.now c.requires.has_key c.requires.whole e ∙ sym c.hash_probe-hash.ensures) c.node.result at c.requires.hashed

pub is_match-requires-clause-node : goal.is_match-requires-clause-node
is_match-requires-clause-node g c =
    let at = has_start (column_of c.args.store.now) c.args.self.now c.hash_probe-hash.result (first_in c.head-head.result) c.head-head.ensures.first c.requires.chain in
    node_of_column c.args.store.now (col_of c.args.self.now) c.in-Some.n (walk_node (column_of c.args.store.now) c.args.self.now (first_in c.head-head.result) c.in-Some.n at.ends (hinted_first c.hash_probe-hash.result c.head-head.result c.in-Some.n (sym c.hinted.ensures ∙ c.in-Some.is)))

pub returns-then-is_match : goal.returns-then-is_match
returns-then-is_match g c =
    let at = has_start (column_of c.args.store.now) c.args.self.now c.hash_probe-hash.result (first_in c.head-head.result) c.head-head.ensures.first c.requires.chain in
    let rest = walk_rest (column_of c.args.store.now) c.args.self.now (first_in c.head-head.result) c.in-Some.n at.ends (hinted_first c.hash_probe-hash.result c.head-head.result c.in-Some.n (sym c.hinted.ensures ∙ c.in-Some.is)) in
    let matched = matched_in c.args.store.now c.args.self.now (g.E.Extract.hash_of c.args.keys.now (index_of c.args.self.now)) c.hash_probe-hash.result (λ a. g.E.Extract.probe_order_of c.args.keys.now (index_of c.args.self.now) a c.args.probe.now)
    (λ a e. g.met.E.Extract.whole_hash c.args.keys.now (index_of c.args.self.now) a c.args.probe.now c.requires.has_key c.requires.whole e ∙ sym c.hash_probe-hash.ensures) (first_in c.head-head.result) at c.requires.hashed in
    sym (find_hit (λ n. is_eq (side_of (λ a. g.E.Extract.probe_order_of c.args.keys.now (index_of c.args.self.now) a c.args.probe.now) c.args.store.now n)) c.in-Some.n rest.0 (sym c.is_match.ensures ∙ c.if-is_match.true))
    ∙ (ap (λ l. find (λ n. is_eq (side_of (λ a. g.E.Extract.probe_order_of c.args.keys.now (index_of c.args.self.now) a c.args.probe.now) c.args.store.now n)) l) (sym rest.1)
    ∙ (sym (first_passed (λ n. is_eq (side_of (λ a. g.E.Extract.probe_order_of c.args.keys.now (index_of c.args.self.now) a c.args.probe.now) c.args.store.now n)) (rest_of (column_of c.args.store.now) c.args.self.now (first_in c.head-head.result))) ∙ ap (λ l. slice_get l 0) (sym matched)))

pub returns : goal.returns
returns g c =
    let at = has_start (column_of c.args.store.now) c.args.self.now c.hash_probe-hash.result c.node.result (c.node.ensures ∙ c.head-head.ensures.first) c.requires.chain in
    let matched = matched_in c.args.store.now c.args.self.now (g.E.Extract.hash_of c.args.keys.now (index_of c.args.self.now)) c.hash_probe-hash.result (λ a. g.E.Extract.probe_order_of c.args.keys.now (index_of c.args.self.now) a c.args.probe.now)
    (λ a e. g.met.E.Extract.whole_hash c.args.keys.now (index_of c.args.self.now) a c.args.probe.now c.requires.has_key c.requires.whole e ∙ sym c.hash_probe-hash.ensures) c.node.result at c.requires.hashed in
    c.match_from.ensures ∙ (sym (first_passed (λ n. is_eq (side_of (λ a. g.E.Extract.probe_order_of c.args.keys.now (index_of c.args.self.now) a c.args.probe.now) c.args.store.now n)) (rest_of (column_of c.args.store.now) c.args.self.now c.node.result)) ∙ ap (λ l. slice_get l 0) (sym matched))
