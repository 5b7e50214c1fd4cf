use Rattle.std.proofs.Common.{◌≡◌, ◌-◌, ◌<◌, [], ◌∷◌, ◌++◌, get_or, Some, ◌∙◌, ap, sym, refl, arith}
use Rattle.std.specs.List.{slice_get}
use Rattle.std.proofs.lemmas.Option.{slice_get-get_or}
use Rattle.node_store.specs.ByNode.{column_of}
use Rattle.hash_index.specs.Spelled.{all_of}
use Rattle.hash_index.proofs.Alone.{stands_at, empty_parted}
use Rattle.hash_index.proofs.Growing.{head_kept}
use Rattle.hash_index.proofs.Grown.{chain_grown}
use Rattle.hash_index.proofs.HashIndex.add_chain.Goals as goal

pub returns-then-is_empty_at-clause-grown : goal.returns-then-is_empty_at-clause-grown
returns-then-is_empty_at-clause-grown g c =
    let i = c.args.self.now in
    let none = c.none.result in
    let from = c.len.result - i.level in
    let within : from < i.chains.len = omega (arith, c.len.ensures, c.requires.some, i.some_level) in
    let head = get_or (all_of i) from none in
    let at : slice_get (all_of i) from ≡ Some head = slice_get-get_or (all_of i) from none (omega (arith, within, i.chains.ok)) in
    let stands = stands_at (column_of c.args.store.now) i from head within at c.requires.chain in
    chain_grown c.args.store.now c.args.store.now i _ c.requires.chain (record { col = refl; index = refl; others = λ k ne. refl; contents = refl }) refl c.push_reserved.ensures.len refl c.requires.some c.requires.below c.push_reserved.ensures.room
    from head head none (ap (λ k. k - i.level) c.len.ensures) at
    (empty_parted (column_of c.args.store.now) i head none stands c.none.ensures.first c.none.ensures.mark (sym (c.is_empty_at.ensures head at) ∙ c.if-is_empty_at.true))
    (c.push_reserved.ensures.heads ∙ ap (λ z. z ++ none ∷ []) (sym (head_kept (all_of i) from head at)))
