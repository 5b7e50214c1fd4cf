use Rattle.std.proofs.Common.{◌≡◌, None}
use Rattle.std.specs.Prelude.{replicate}
use Rattle.shared_tables.proofs.look.KeptLook.none.Given as goal

abbrev pub invariant-loop : goal.invariant-loop
invariant-loop l = l.looks.items ≡ replicate l.counter None
