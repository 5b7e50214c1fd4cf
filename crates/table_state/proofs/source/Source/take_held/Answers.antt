use Rattle.std.proofs.Common.{◌≡◌, ◌+◌, suc, ap, ◌∙◌, ◌∷◌, drop, take, arith}
use Rattle.table_state.proofs.Taking.{held_more}
use Rattle.table_state.proofs.source.Source.take_held.Goals as goal

pub returns-clause-held : goal.returns-clause-held
returns-clause-held c =
    let old = c.args.self.now in
    let next : suc old.start ≡ old.start + 1 = omega arith in
    held_more old.start old.end old.piece.items c.index-byte.result.now _ c.requires.some c.requires.within.end c.index-byte.ensures
    ∙ ap (λ n. c.index-byte.result.now ∷ drop n (take old.end old.piece.items)) next
