use Rattle.std.proofs.Common.{Some, ap, sym, ◌∙◌}
use Rattle.std.specs.Option.{option_map}
use Rattle.node_store.proofs.ByNode.{node_of_column}
use Rattle.hash_index.specs.Spelled.{col_of, index_of}
use Rattle.hash_index.proofs.Laws.{IsHashed_put}
use Rattle.hash_index.proofs.HashIndex.link.Goals as goal

pub get-requires : goal.get-requires
get-requires g c = node_of_column c.args.store.now (col_of c.args.self.now) c.args.n c.requires.node

pub returns-clause-hashed : goal.returns-clause-hashed
returns-clause-hashed g c = λ h.
    let hash = g.E.Extract.hash_of c.args.keys.now (index_of c.args.self.now) in
    IsHashed_put hash c.args.store.now c.put.new.store (col_of c.args.self.now) c.args.n _ _
    (c.put.ensures.tag ∙ (ap Some c.hash-hash.ensures ∙ sym (ap (option_map hash) c.get.ensures)))
    c.put.ensures.tags c.put.ensures.rest.contents c.requires.new c.put.ensures.list h
