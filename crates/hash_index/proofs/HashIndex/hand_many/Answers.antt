use Rattle.std.proofs.Common.{◌+◌, [], ◌∷◌, ◌++◌, ◌∙◌, ap, refl, arith}
use Rattle.node_store.specs.ByNode.{column_of}
use Rattle.hash_index.proofs.Alone.{stands_at}
use Rattle.hash_index.proofs.Grown.{chain_grown}
use Rattle.hash_index.proofs.HashIndex.hand_many.Goals as goal

pub part-requires : goal.part-requires
part-requires g c = let i = c.args.self.now in stands_at (column_of c.args.store.now) i c.args.from c.args.head (omega (arith, c.requires.from, c.requires.some, i.some_level)) c.requires.head c.requires.chain

pub returns-clause-grown : goal.returns-clause-grown
returns-clause-grown g c =
    chain_grown c.args.store.now c.part.new.store c.args.self.now _ c.requires.chain (record { col = refl; index = refl; others = c.part.ensures.others; contents = c.part.ensures.contents }) refl (c.push_reserved.ensures.len ∙ ap (λ k. k + 1) c.set.ensures.len) refl c.requires.some c.requires.below (c.push_reserved.ensures.room ∙ c.set.ensures.room)
    c.args.from c.args.head c.part.result.0 c.part.result.1 c.requires.from c.requires.head c.part.ensures.parted (c.push_reserved.ensures.heads ∙ ap (λ z. z ++ c.part.result.1 ∷ []) c.set.ensures.heads)
