use Rattle.std.proofs.Common.{◌≡◌, ◌+◌, ◌++◌, length, take, drop, sym, ap, ◌∙◌, arith}
use Rattle.std.proofs.lemmas.List.{with_items_is}
use Rattle.table_state.proofs.Taking.{filled}
use Rattle.table_state.proofs.source.Source.fill.Goals as goal

pub returns-in-Ok-clause-takes : goal.returns-in-Ok-clause-takes
returns-in-Ok-clause-takes g c = λ bytes known.
    let old = c.args.self.now in
    let same : length c.read.new.piece ≡ old.piece.len = omega arith in
    let items = with_items_is old.piece c.read.new.piece same in
    filled bytes c.read.new.piece old c.in-Ok.count c.requires.none (c.in-Ok.ensures.bytes.read bytes known)
    ∙ ap (λ xs. drop 0 (take c.in-Ok.count xs) ++ drop (old.at + c.in-Ok.count) bytes) (sym items)
