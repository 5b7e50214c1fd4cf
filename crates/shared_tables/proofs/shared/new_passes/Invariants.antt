use Rattle.std.proofs.Common.{◌≡◌}
use Rattle.shared_tables.specs.Pass.{fresh_passes}
use Rattle.shared_tables.proofs.shared.new_passes.Given as goal

abbrev pub invariant-loop-session : goal.invariant-loop-session
invariant-loop-session l = l.passes.items ≡ fresh_passes l.tables l.session
