use Rattle.any_index.specs.Keyed.{marks_of}
use Rattle.index_set.proofs.Building.{Built}
use Rattle.index_set.proofs.build.build.Given as goal

abbrev pub invariant-loop-n : goal.invariant-loop-n
invariant-loop-n g l = Built (g.E.Extract.order_of l.keys) (marks_of g.E.Extract l.keys) l.initial.store l.fn.spec l.column l.index l.nodes l.n-index l.store l.made
