use Rattle.std.proofs.Common.{◌≡◌, length}
use Rattle.kept_tables.proofs.opening.decide_all.Given as goal

abbrev pub invariant-loop-spec : goal.invariant-loop-spec
invariant-loop-spec l = length l.decided.items ≡ l.spec-index
