use Rattle.index_tests.specs.Every.{HaveColumns}
use Rattle.index_tests.proofs.columns.taken_from_each.Given as goal

abbrev pub invariant-loop-name : goal.invariant-loop-name
invariant-loop-name l = HaveColumns l.store l.indices

abbrev pub invariant-loop-place : goal.invariant-loop-place
invariant-loop-place l = HaveColumns l.store l.indices
