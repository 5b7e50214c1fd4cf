use Rattle.std.proofs.Common.{◌≡◌, [], ◌∷◌, cond, None, refl, ◌∙◌, sym, ap, subst}
use Rattle.std.specs.Ordering.{is_eq}
use Rattle.node_store.specs.Nodes.{Holds}
use Rattle.hash_index.specs.Chains.{tag_at}
use Rattle.hash_index.specs.Earliest.{earliest_of}
use Rattle.hash_index.proofs.Oldest.{oldest_at}
use Rattle.hash_index.proofs.AddedFirst.{oldest_is, least_first}
use Rattle.hash_index.proofs.Changes.{rising_rest}
use Rattle.hash_index.specs.Walks.{rest_of}
use Rattle.node_store.specs.ByNode.{column_of}
use Rattle.node_store.proofs.ByNode.{node_of_column}
use Rattle.hash_index.specs.Heads.{first_in}
use Rattle.hash_index.specs.Spelled.{col_of, index_of, all_of, spelled, leads_to}
use Rattle.hash_index.specs.Hashed.{side_of, matches}
use Rattle.hash_index.proofs.Heads.{hinted_first}
use Rattle.hash_index.proofs.Spelling.{has_start, held_in}
use Rattle.hash_index.proofs.Matching.{walk_node, walk_rest, matched_in, rest_hashed, same_tags, Holds_kept}
use Rattle.node_store.specs.Store.{age_of}
use Rattle.hash_index.proofs.HashIndex.earliest_of.Goals as goal

pub earliest_from-requires-clause-ends : goal.earliest_from-requires-clause-ends
earliest_from-requires-clause-ends g c = (has_start (column_of c.args.store.now) c.args.self.now c.hash_probe-hash.result c.node-first.result (c.node-first.ensures ∙ c.head-head.ensures.first) c.requires.chain).ends

pub earliest_from-requires-clause-hashed : goal.earliest_from-requires-clause-hashed
earliest_from-requires-clause-hashed g c =
    let at = has_start (column_of c.args.store.now) c.args.self.now c.hash_probe-hash.result c.node-first.result (c.node-first.ensures ∙ c.head-head.ensures.first) c.requires.chain in
    rest_hashed c.args.store.now c.args.self.now (g.E.Extract.hash_of c.args.keys.now (index_of c.args.self.now)) c.hash_probe-hash.result (λ a. g.E.Extract.probe_order_of c.args.keys.now (index_of c.args.self.now) a c.args.probe.now)
    (λ a e. g.met.E.Extract.whole_hash c.args.keys.now (index_of c.args.self.now) a c.args.probe.now c.requires.has_key c.requires.whole e ∙ sym c.hash_probe-hash.ensures) c.node-first.result at c.requires.hashed

pub rises-requires : goal.rises-requires
rises-requires g c = λ m e.
    let at = has_start (column_of c.args.store.now) c.args.self.now c.hash_probe-hash.result c.node-first.result (c.node-first.ensures ∙ c.head-head.ensures.first) c.requires.chain in
    walk_node (column_of c.args.store.now) c.args.self.now c.node-first.result m at.ends e

pub match_from-requires-clause-ends : goal.match_from-requires-clause-ends
match_from-requires-clause-ends g c = (has_start (column_of c.args.store.now) c.args.self.now c.hash_probe-hash.result c.node-first.result (c.node-first.ensures ∙ c.head-head.ensures.first) c.requires.chain).ends

pub match_from-requires-clause-hashed : goal.match_from-requires-clause-hashed
match_from-requires-clause-hashed g c =
    let at = has_start (column_of c.args.store.now) c.args.self.now c.hash_probe-hash.result c.node-first.result (c.node-first.ensures ∙ c.head-head.ensures.first) c.requires.chain in
    rest_hashed c.args.store.now c.args.self.now (g.E.Extract.hash_of c.args.keys.now (index_of c.args.self.now)) c.hash_probe-hash.result (λ a. g.E.Extract.probe_order_of c.args.keys.now (index_of c.args.self.now) a c.args.probe.now)
    (λ a e. g.met.E.Extract.whole_hash c.args.keys.now (index_of c.args.self.now) a c.args.probe.now c.requires.has_key c.requires.whole e ∙ sym c.hash_probe-hash.ensures) c.node-first.result at c.requires.hashed

-- the first of a chain that rises to have the key is the earliest
pub returns-then-rises : goal.returns-then-rises
returns-then-rises g c =
    let i = c.args.self.now in
    let cs = column_of c.args.store.now in
    let side = (side_of (λ a. g.E.Extract.probe_order_of c.args.keys.now (index_of c.args.self.now) a c.args.probe.now) c.args.store.now) in
    let at = has_start cs i c.hash_probe-hash.result c.node-first.result (c.node-first.ensures ∙ c.head-head.ensures.first) c.requires.chain in
    let matched = matched_in c.args.store.now i (g.E.Extract.hash_of c.args.keys.now (index_of i)) c.hash_probe-hash.result (λ a. g.E.Extract.probe_order_of c.args.keys.now (index_of i) a c.args.probe.now) (λ a e. g.met.E.Extract.whole_hash c.args.keys.now (index_of i) a c.args.probe.now c.requires.has_key c.requires.whole e ∙ sym c.hash_probe-hash.ensures) c.node-first.result at c.requires.hashed in
    let rises = rising_rest cs i c.hash_probe-hash.result c.head-head.result c.node-first.result c.requires.chain c.node-first.ensures c.head-head.ensures.head (sym c.rises.ensures ∙ c.if-rises.true) in
    c.match_from.ensures ∙ (sym (least_first (age_of c.args.store.now) (λ m. is_eq (side m)) (rest_of cs i c.node-first.result) rises) ∙ ap (earliest_of (age_of c.args.store.now) None) (sym matched))

pub is_match-requires-clause-node : goal.is_match-requires-clause-node
is_match-requires-clause-node g c =
    let at = has_start (column_of c.args.store.now) c.args.self.now c.hash_probe-hash.result (first_in c.head-head.result) c.head-head.ensures.first c.requires.chain in
    node_of_column c.args.store.now (col_of c.args.self.now) c.in-Some.n (walk_node (column_of c.args.store.now) c.args.self.now (first_in c.head-head.result) c.in-Some.n at.ends (hinted_first c.hash_probe-hash.result c.head-head.result c.in-Some.n (sym c.hinted.ensures ∙ c.in-Some.is)))

-- the first node of the chain is the oldest of its hash, which all that have the key have
pub returns-then-is_match : goal.returns-then-is_match
returns-then-is_match g c =
    let i = c.args.self.now in
    let s = c.args.store.now in
    let cs = column_of s in
    let n = c.in-Some.n in
    let hash = c.hash_probe-hash.result in
    let head = c.head-head.result in
    let side = (side_of (λ a. g.E.Extract.probe_order_of c.args.keys.now (index_of c.args.self.now) a c.args.probe.now) c.args.store.now) in
    let begin = hinted_first hash head n (sym c.hinted.ensures ∙ c.in-Some.is) in
    let at = has_start cs i hash (first_in head) c.head-head.ensures.first c.requires.chain in
    let rest = walk_rest cs i (first_in head) n at.ends begin in
    let matched = matched_in s i (g.E.Extract.hash_of c.args.keys.now (index_of c.args.self.now)) hash (λ a. g.E.Extract.probe_order_of c.args.keys.now (index_of c.args.self.now) a c.args.probe.now) (λ a e. g.met.E.Extract.whole_hash c.args.keys.now (index_of c.args.self.now) a c.args.probe.now c.requires.has_key c.requires.whole e ∙ sym c.hash_probe-hash.ensures) (first_in head) at c.requires.hashed in
    let passed = sym c.is_match.ensures ∙ c.if-is_match.true in
    let held : Holds (matches side (spelled cs i)) n = subst (λ l. Holds l n) (sym (matched ∙ (ap (matches side) rest.1 ∙ ap (λ b. cond b (n ∷ matches side rest.0) (matches side rest.0)) passed))) (record { before = []; after = matches side rest.0; is = refl }) in
    let there = c.head-head.ensures.head (λ e. cc) in
    let old = oldest_at (age_of c.args.store.now) (cs i.col) (all_of i) (spelled cs i) (leads_to i hash) head c.requires.chain.oldest there (c.is_oldest.ensures.0 c.if-is_oldest.true) n begin in
    sym (oldest_is (age_of c.args.store.now) (λ m. is_eq (side m)) (spelled cs i) n (λ m. tag_at (cs i.col) m ≡ tag_at (cs i.col) n) held old (same_tags s i.col (g.E.Extract.hash_of c.args.keys.now (index_of c.args.self.now)) hash (λ a. g.E.Extract.probe_order_of c.args.keys.now (index_of c.args.self.now) a c.args.probe.now) (λ a e. g.met.E.Extract.whole_hash c.args.keys.now (index_of c.args.self.now) a c.args.probe.now c.requires.has_key c.requires.whole e ∙ sym c.hash_probe-hash.ensures) n passed (spelled cs i) c.requires.hashed (held_in _ (spelled cs i) n c.requires.hashed (Holds_kept (λ m. is_eq (side m)) (spelled cs i) n held))))

pub returns : goal.returns
returns g c =
    let side = (side_of (λ a. g.E.Extract.probe_order_of c.args.keys.now (index_of c.args.self.now) a c.args.probe.now) c.args.store.now) in
    let at = has_start (column_of c.args.store.now) c.args.self.now c.hash_probe-hash.result c.node-first.result (c.node-first.ensures ∙ c.head-head.ensures.first) c.requires.chain in
    let matched = matched_in c.args.store.now c.args.self.now (g.E.Extract.hash_of c.args.keys.now (index_of c.args.self.now)) c.hash_probe-hash.result (λ a. g.E.Extract.probe_order_of c.args.keys.now (index_of c.args.self.now) a c.args.probe.now) (λ a e. g.met.E.Extract.whole_hash c.args.keys.now (index_of c.args.self.now) a c.args.probe.now c.requires.has_key c.requires.whole e ∙ sym c.hash_probe-hash.ensures) c.node-first.result at c.requires.hashed in
    c.earliest_from.ensures ∙ ap (earliest_of (age_of c.args.store.now) None) (sym matched)
