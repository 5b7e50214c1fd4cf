use Rattle.std.proofs.Common.{drop}
use Rattle.table_reply.specs.Buffer.{texts}
use Rattle.table_reply.proofs.Room.{Midway}
use Rattle.table_reply.proofs.out.Out.try_push_all.Given as goal

abbrev pub invariant-loop-piece : goal.invariant-loop-piece
invariant-loop-piece l = Midway l.fn.self l.self (texts (drop l.piece-index l.pieces)) (texts l.pieces)
