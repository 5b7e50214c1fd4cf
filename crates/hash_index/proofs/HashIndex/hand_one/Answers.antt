use Rattle.std.proofs.Common.{◌+◌, ◌*◌, ◌%◌, [], ◌∷◌, ◌++◌, ap, sym, refl, ◌∙◌, arith}
use Rattle.node_store.specs.ByNode.{column_of}
use Rattle.hash_index.specs.Heads.{first_in}
use Rattle.hash_index.specs.Spelled.{all_of, col_of}
use Rattle.hash_index.proofs.Alone.{alone_is, one_goes, one_stays, stands_at}
use Rattle.hash_index.proofs.Growing.{head_kept}
use Rattle.hash_index.proofs.Grown.{chain_grown}
use Rattle.hash_index.proofs.Matching.{walk_node}
use Rattle.hash_index.proofs.Untagged.{tag_is, leads_there, leads_elsewhere}
use Rattle.hash_index.proofs.HashIndex.hand_one.Goals as goal

pub link-requires : goal.link-requires
link-requires g c =
    let i = c.args.self.now in
    let stands = stands_at (column_of c.args.store.now) i c.args.from c.args.head (omega (arith, c.requires.from, c.requires.some, i.some_level)) c.requires.head c.requires.chain in
    walk_node (column_of c.args.store.now) i (first_in c.args.head) c.args.n stands.ends (alone_is c.args.head c.args.n c.requires.alone).1

pub returns-then-remainder-len-clause-grown : goal.returns-then-remainder-len-clause-grown
returns-then-remainder-len-clause-grown g c =
    let i = c.args.self.now in
    let old = column_of c.args.store.now (col_of i) in
    let is = alone_is c.args.head c.args.n c.requires.alone in
    let stands = stands_at (column_of c.args.store.now) i c.args.from c.args.head (omega (arith, c.requires.from, c.requires.some, i.some_level)) c.requires.head c.requires.chain in
    let parted = one_goes (column_of c.args.store.now) i c.args.head c.none.result stands c.none.ensures.first c.none.ensures.mark c.args.n c.link.result c.link.ensures is.0 is.1
    (leads_there old (λ hash. hash % (i.level * 2)) i.chains.len c.args.n c.link.result.tag (tag_is old c.args.n c.link.result c.link.ensures) (sym c.remainder.ensures ∙ (c.if-remainder-len.true ∙ c.len.ensures))) in
    chain_grown c.args.store.now c.args.store.now i _ c.requires.chain (record { col = refl; index = refl; others = λ k ne. refl; contents = refl }) refl (c.push_reserved.ensures.len ∙ ap (λ k. k + 1) c.set.ensures.len) refl c.requires.some c.requires.below (c.push_reserved.ensures.room ∙ c.set.ensures.room)
    c.args.from c.args.head c.none.result c.args.head c.requires.from c.requires.head parted (c.push_reserved.ensures.heads ∙ ap (λ z. z ++ c.args.head ∷ []) c.set.ensures.heads)

pub returns-else-remainder-len-clause-grown : goal.returns-else-remainder-len-clause-grown
returns-else-remainder-len-clause-grown g c =
    let i = c.args.self.now in
    let old = column_of c.args.store.now (col_of i) in
    let is = alone_is c.args.head c.args.n c.requires.alone in
    let none = c.none-else-remainder-len in
    let stands = stands_at (column_of c.args.store.now) i c.args.from c.args.head (omega (arith, c.requires.from, c.requires.some, i.some_level)) c.requires.head c.requires.chain in
    let parted = one_stays (column_of c.args.store.now) i c.args.head none.result stands none.ensures.first none.ensures.mark c.args.n c.link.result c.link.ensures is.0 is.1
    (leads_elsewhere old (λ hash. hash % (i.level * 2)) i.chains.len c.args.n c.link.result.tag (tag_is old c.args.n c.link.result c.link.ensures) (λ e. c.if-remainder-len.false (c.remainder.ensures ∙ (e ∙ sym c.len.ensures)))) in
    chain_grown c.args.store.now c.args.store.now i _ c.requires.chain (record { col = refl; index = refl; others = λ k ne. refl; contents = refl }) refl c.push_reserved-else-remainder-len.ensures.len refl c.requires.some c.requires.below c.push_reserved-else-remainder-len.ensures.room
    c.args.from c.args.head c.args.head none.result c.requires.from c.requires.head parted (c.push_reserved-else-remainder-len.ensures.heads ∙ ap (λ z. z ++ none.result ∷ []) (sym (head_kept (all_of i) c.args.from c.args.head c.requires.head)))
