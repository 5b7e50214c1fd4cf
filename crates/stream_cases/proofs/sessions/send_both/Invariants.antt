use Rattle.std.proofs.Common.{◌≡◌, length}
use Rattle.stream_cases.proofs.sessions.send_both.Given as goal

abbrev pub invariant-loop-at : goal.invariant-loop-at
invariant-loop-at l = (length l.engine.unfinished ≡ 2) × (length l.outs ≡ 2)
