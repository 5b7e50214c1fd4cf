use Rattle.std.proofs.Common.{arith}
use Rattle.any_index.specs.Spelled.{col_of}
use Rattle.index_set.proofs.FreeColumn.{free_at_end}
use Rattle.index_set.proofs.build.free_column.Goals as goal

pub returns-clause-free : goal.returns-clause-free
returns-clause-free c = free_at_end col_of _ c.args.indices.now (omega arith) (λ j lt. c.loop-column.invariant.taken j (omega (arith, lt)))
