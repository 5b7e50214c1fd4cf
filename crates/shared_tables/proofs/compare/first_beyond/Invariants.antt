use Rattle.std.proofs.Common.{◌≡◌, ◌≤◌, take, []}
use Rattle.shared_tables.specs.Gathered.{FirstFailure, passes_of}
use Rattle.shared_tables.proofs.compare.first_beyond.Given as goal

abbrev pub invariant-loop-pass : goal.invariant-loop-pass
invariant-loop-pass l = FirstFailure (λ session. l.workers ≤ session → passes_of session (take l.pass-index l.passes) ≡ []) l.least
