use Rattle.std.proofs.Common.{◌≡◌, length}
use Rattle.stream_cases.proofs.sent.answered.Given as goal

abbrev pub invariant-loop-piece : goal.invariant-loop-piece
invariant-loop-piece l = length l.engine.unfinished ≡ 1
