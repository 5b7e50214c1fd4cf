use Rattle.std.proofs.Common.{◌≡◌, length}
use Rattle.stream_cases.proofs.sessions.are_shared_alike.Given as goal

abbrev pub invariant-loop-pair : goal.invariant-loop-pair
invariant-loop-pair l = (length l.engine.unfinished ≡ 2) × (length l.outs ≡ 2)
