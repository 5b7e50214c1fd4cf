use Rattle.std.proofs.Common.{◌≡◌, length}
use Rattle.stream_cases.proofs.sent.each_answer.Given as goal

abbrev pub invariant-loop-line : goal.invariant-loop-line
invariant-loop-line l = length l.engine.unfinished ≡ 1
