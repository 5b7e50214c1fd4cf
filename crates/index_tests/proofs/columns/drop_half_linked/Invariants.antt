use Rattle.index_tests.specs.Every.{HaveColumns}
use Rattle.index_tests.proofs.columns.drop_half_linked.Given as goal

abbrev pub invariant-loop-name : goal.invariant-loop-name
invariant-loop-name l = HaveColumns l.store l.indices

abbrev pub invariant-loop-half : goal.invariant-loop-half
invariant-loop-half l = HaveColumns l.store l.indices
