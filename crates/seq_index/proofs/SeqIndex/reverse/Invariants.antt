use Rattle.std.proofs.Common.{◌≡◌}
use Rattle.node_store.specs.ByNode.{column_of, contents}
use Rattle.seq_index.specs.Spelled.{spelled, col_of, KeepsOthers}
use Rattle.seq_index.proofs.Turns.{Turning}
use Rattle.seq_index.proofs.SeqIndex.reverse.Given as goal

abbrev pub invariant-loop : goal.invariant-loop
invariant-loop g l = record {
  turning : Turning (column_of l.store (col_of l.self)) l.at (spelled (column_of l.fn.store) l.fn.self) l.counter;
  others : KeepsOthers (column_of l.fn.store) (column_of l.store) (col_of l.fn.self);
  contents : contents l.store ≡ contents l.fn.store;
}
