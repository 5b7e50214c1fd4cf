use Rattle.std.proofs.Common.{[], ◌∷◌, suc, take, drop, get_or}
use Rattle.table_log.proofs.Feeding.{around, refuses_later}
use Rattle.table_log.proofs.loading.Loader.take.Goals as goal

pub returns-in-Err-clause-refused : goal.returns-in-Err-clause-refused
returns-in-Err-clause-refused c =
    let piece = c.args.piece.now in
    let i = c.loop-byte.byte-index in
    refuses_later c.args.self.now c.loop-byte.self piece (take i piece) (get_or piece i 0 ∷ []) (drop (suc i) piece) c.in-Err.why
    (around piece i c.loop-byte-test.true) c.loop-byte.invariant.loads c.in-Err.ensures.refused
