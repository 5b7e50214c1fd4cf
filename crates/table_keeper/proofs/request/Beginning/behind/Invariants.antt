use Rattle.std.proofs.Common.{◌≡◌, drop}
use Rattle.std.specs.Prelude.{fold}
use Rattle.table_keeper.specs.Request.{after}
use Rattle.table_keeper.proofs.request.Beginning.behind.Given as goal

abbrev pub invariant-loop-byte : goal.invariant-loop-byte
invariant-loop-byte l = fold after l.known (drop l.byte-index l.bytes) ≡ fold after l.fn.self l.bytes
