use Rattle.std.specs.Prelude.{⊤}
use Rattle.linked_set.proofs.erase_key.last_or_any.Given as goal

abbrev pub invariant-loop-row : goal.invariant-loop-row
invariant-loop-row g l = ⊤
