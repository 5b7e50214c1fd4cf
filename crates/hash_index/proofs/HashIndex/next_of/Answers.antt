use Rattle.std.proofs.Common.{◌∙◌, refl}
use Rattle.node_store.specs.ByNode.{column_of}
use Rattle.hash_index.specs.Spelled.{index_of}
use Rattle.hash_index.proofs.Levels.{leads_within}
use Rattle.hash_index.proofs.Spelling.{held_node, some_chain, has_hash}
use Rattle.hash_index.proofs.Matching.{Holds_kept, match_past, match_hash, past_hashed}
use Rattle.hash_index.proofs.HashIndex.next_of.Goals as goal

pub link-link-requires : goal.link-link-requires
link-link-requires g c = held_node _ _ _ c.args.n c.requires.search.chain (Holds_kept _ _ c.args.n c.requires.held)

pub match_from-requires-clause-ends : goal.match_from-requires-clause-ends
match_from-requires-clause-ends g c =
    let i = c.args.self.now in
    let key_hash = g.E.Extract.probe_hash_of c.args.keys.now (index_of i) c.args.probe.now in
    let some = some_chain _ i _ c.args.n c.requires.search.chain (Holds_kept _ _ c.args.n c.requires.held) in
    let within = leads_within i key_hash some in
    let at = has_hash (column_of c.args.store.now) i key_hash _ within refl c.requires.search.chain in
    (match_past c.args.store.now i (g.E.Extract.hash_of c.args.keys.now (index_of c.args.self.now)) key_hash (λ a. g.E.Extract.probe_order_of c.args.keys.now (index_of c.args.self.now) a c.args.probe.now)
    (λ a e. g.met.E.Extract.whole_hash c.args.keys.now (index_of c.args.self.now) a c.args.probe.now c.requires.search.has_key c.requires.search.whole e) _ at c.requires.search.hashed c.args.n c.link-link.result c.requires.search.chain.distinct c.requires.held c.link-link.ensures).0

pub match_from-requires-clause-hashed : goal.match_from-requires-clause-hashed
match_from-requires-clause-hashed g c =
    let i = c.args.self.now in
    let key_hash = g.E.Extract.probe_hash_of c.args.keys.now (index_of i) c.args.probe.now in
    let some = some_chain _ i _ c.args.n c.requires.search.chain (Holds_kept _ _ c.args.n c.requires.held) in
    let within = leads_within i key_hash some in
    let at = has_hash (column_of c.args.store.now) i key_hash _ within refl c.requires.search.chain in
    past_hashed c.args.store.now i (g.E.Extract.hash_of c.args.keys.now (index_of c.args.self.now)) key_hash (λ a. g.E.Extract.probe_order_of c.args.keys.now (index_of c.args.self.now) a c.args.probe.now)
    (λ a e. g.met.E.Extract.whole_hash c.args.keys.now (index_of c.args.self.now) a c.args.probe.now c.requires.search.has_key c.requires.search.whole e) _ at c.requires.search.hashed c.args.n c.link-link.result c.requires.held c.link-link.ensures

pub match_from-requires-clause-hash : goal.match_from-requires-clause-hash
match_from-requires-clause-hash g c =
    let i = c.args.self.now in
    let key_hash = g.E.Extract.probe_hash_of c.args.keys.now (index_of i) c.args.probe.now in
    let some = some_chain _ i _ c.args.n c.requires.search.chain (Holds_kept _ _ c.args.n c.requires.held) in
    let within = leads_within i key_hash some in
    let at = has_hash (column_of c.args.store.now) i key_hash _ within refl c.requires.search.chain in
    match_hash c.args.store.now i (g.E.Extract.hash_of c.args.keys.now (index_of c.args.self.now)) key_hash (λ a. g.E.Extract.probe_order_of c.args.keys.now (index_of c.args.self.now) a c.args.probe.now)
    (λ a e. g.met.E.Extract.whole_hash c.args.keys.now (index_of c.args.self.now) a c.args.probe.now c.requires.search.has_key c.requires.search.whole e) _ at c.requires.search.hashed c.args.n c.link-link.result c.requires.held c.link-link.ensures

pub returns : goal.returns
returns g c =
    let i = c.args.self.now in
    let key_hash = g.E.Extract.probe_hash_of c.args.keys.now (index_of i) c.args.probe.now in
    let some = some_chain _ i _ c.args.n c.requires.search.chain (Holds_kept _ _ c.args.n c.requires.held) in
    let within = leads_within i key_hash some in
    let at = has_hash (column_of c.args.store.now) i key_hash _ within refl c.requires.search.chain in
    c.match_from.ensures ∙ (match_past c.args.store.now i (g.E.Extract.hash_of c.args.keys.now (index_of c.args.self.now)) key_hash (λ a. g.E.Extract.probe_order_of c.args.keys.now (index_of c.args.self.now) a c.args.probe.now)
    (λ a e. g.met.E.Extract.whole_hash c.args.keys.now (index_of c.args.self.now) a c.args.probe.now c.requires.search.has_key c.requires.search.whole e) _ at c.requires.search.hashed c.args.n c.link-link.result c.requires.search.chain.distinct c.requires.held c.link-link.ensures).1
