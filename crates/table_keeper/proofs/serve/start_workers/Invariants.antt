use Rattle.std.proofs.Common.{◌≤◌}
use Rattle.table_keeper.proofs.serve.start_workers.Given as goal

abbrev pub invariant-loop : goal.invariant-loop
invariant-loop g l = l.started ≤ l.counter
