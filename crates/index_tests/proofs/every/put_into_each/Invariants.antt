use Rattle.node_store.specs.Store.{IsNodeOf}
use Rattle.node_store.specs.ByNode.{column_of}
use Rattle.index_tests.specs.Every.{HaveColumns, LackFrom}
use Rattle.index_tests.proofs.every.put_into_each.Given as goal

abbrev pub invariant-loop-place : goal.invariant-loop-place
invariant-loop-place g l = record {
  columns : HaveColumns l.store l.indices;
  node : IsNodeOf l.store l.n;
  new : LackFrom (column_of l.store) l.place l.indices l.n;
}
