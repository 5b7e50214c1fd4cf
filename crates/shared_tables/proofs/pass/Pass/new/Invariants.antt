use Rattle.std.proofs.Common.{◌≡◌}
use Rattle.std.specs.Prelude.{replicate}
use Rattle.shared_tables.specs.Pass.{fresh}
use Rattle.shared_tables.proofs.pass.Pass.new.Given as goal

abbrev pub invariant-loop : goal.invariant-loop
invariant-loop l = l.tracks.items ≡ replicate l.counter fresh
