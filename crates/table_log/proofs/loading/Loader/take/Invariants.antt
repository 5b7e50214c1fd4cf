use Rattle.std.proofs.Common.{take}
use Rattle.table_log.specs.Loading.{Grows, Loads}
use Rattle.table_log.proofs.loading.Loader.take.Given as goal

abbrev pub invariant-loop-byte : goal.invariant-loop-byte
invariant-loop-byte l = record { loads : Loads l.initial.self (take l.byte-index l.piece) l.self; grows : Grows l.initial.self l.byte-index l.self }
