use Rattle.std.proofs.Common.{rules, List, ◌∷◌, Some, ap, sym, ◌∙◌, subst, arith}
use Rattle.std.specs.Prelude.{IsPermutation}
use Rattle.std.specs.Option.{option_map}
use Rattle.std.proofs.lemmas.List.Sorted.{IsPermutation-trans, length_permutation}
use Rattle.node_store.specs.declared.Node.{Node}
use Rattle.node_store.specs.Nodes.{Lacks}
use Rattle.node_store.specs.ByNode.{column_of}
use Rattle.node_store.proofs.ByNode.{IsNode_kept, records_kept}
use Rattle.hash_index.specs.Spelled.{spelled, col_of, index_of}
use Rattle.hash_index.specs.Hashed.{IsHashed}
use Rattle.hash_index.proofs.Untagged.{tag_is}
use Rattle.hash_index.proofs.Laws.{node_held, node_linked, spelled_is, Lacks_without, Holds_moved, IsHashed_all, IsHashed_tags, IsHashed_put}
use Rattle.hash_index.proofs.HashIndex.settle.Goals as goal

pub get-requires : goal.get-requires
get-requires g c = node_held c.args.store.now c.args.self.now c.args.n c.requires.node.chain c.requires.node.held

pub link-requires : goal.link-requires
link-requires g c = node_linked c.args.store.now c.args.self.now c.args.n c.requires.node.chain c.requires.node.held

pub returns-then-link-hash-clause-hashed : goal.returns-then-link-hash-clause-hashed
returns-then-link-hash-clause-hashed g c = λ h.
    let hash = g.E.Extract.hash_of c.args.keys.now (index_of c.args.self.now) in
    IsHashed_all hash c.args.store.now (col_of c.args.self.now) c.args.n _
    (tag_is (column_of c.args.store.now (col_of c.args.self.now)) c.args.n c.link.result c.link.ensures ∙ (ap Some (c.if-link-hash.true ∙ c.hash-hash.ensures) ∙ sym (ap (option_map hash) c.get.ensures))) h

pub put-requires : goal.put-requires
put-requires g c = record {
  chain = search rules;
  node = IsNode_kept c.args.store.now c.unlink.new.store _ _ c.args.n c.unlink.ensures.rest.contents c.unlink.ensures.rest.col (node_linked c.args.store.now c.args.self.now c.args.n c.requires.node.chain c.requires.node.held);
  new = subst (λ (z : List Node). Lacks z c.args.n) (sym (spelled_is (column_of c.unlink.new.store) c.unlink.new.self _ c.unlink.ensures.list)) (Lacks_without (spelled (column_of c.args.store.now) c.args.self.now) c.args.n);
  room = c.unlink.ensures.room;
}

pub returns-clause-list : goal.returns-clause-list
returns-clause-list g c =
    let rest = spelled_is (column_of c.unlink.new.store) c.unlink.new.self _ c.unlink.ensures.list in
    IsPermutation-trans _ _ _ (Holds_moved _ c.args.n c.requires.node.chain.distinct c.requires.node.held) (subst (λ (z : List Node). IsPermutation (c.args.n ∷ z) (spelled (column_of c.put.new.store) c.put.new.self)) rest c.put.ensures.list)

pub returns-clause-hashed : goal.returns-clause-hashed
returns-clause-hashed g c = λ h.
    let hash = g.E.Extract.hash_of c.args.keys.now (index_of c.args.self.now) in
    let col = c.unlink.ensures.rest.col in
    let rest = spelled_is (column_of c.unlink.new.store) c.unlink.new.self _ c.unlink.ensures.list in
    let left = IsHashed_tags hash c.args.store.now c.unlink.new.store (col_of c.args.self.now) _ c.unlink.ensures.tags c.unlink.ensures.rest.contents h in
    let moved = subst (λ k. IsHashed hash c.unlink.new.store k (spelled (column_of c.unlink.new.store) c.unlink.new.self)) (sym col)
    (subst (λ (z : List Node). IsHashed hash c.unlink.new.store (col_of c.args.self.now) z) (sym rest) left) in
    let record_is = ap (λ f. f c.args.n) (records_kept c.args.store.now c.unlink.new.store c.unlink.ensures.rest.contents) ∙ c.get.ensures in
    let lacks = subst (λ (z : List Node). Lacks z c.args.n) (sym rest) (Lacks_without (spelled (column_of c.args.store.now) c.args.self.now) c.args.n) in
    subst (λ k. IsHashed hash c.put.new.store k (spelled (column_of c.put.new.store) c.put.new.self)) col
    (IsHashed_put hash c.unlink.new.store c.put.new.store (col_of c.unlink.new.self) c.args.n _ _
    (c.put.ensures.tag ∙ (ap Some c.hash-hash.ensures ∙ sym (ap (option_map hash) record_is)))
    c.put.ensures.tags c.put.ensures.rest.contents lacks c.put.ensures.list moved)

pub returns-clause-room : goal.returns-clause-room
returns-clause-room g c = λ room.
    let count = length_permutation _ _ (Holds_moved _ c.args.n c.requires.node.chain.distinct c.requires.node.held) in
    omega (arith, room, count, c.put.ensures.len, c.unlink.ensures.list.len, c.requires.node.chain.len, c.put.ensures.buckets, c.unlink.ensures.buckets)
