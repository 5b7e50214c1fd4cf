use Rattle.any_index.specs.Keyed.{marks_of}
use Rattle.list_model.specs.Walk.{without}
use Rattle.node_store.specs.ByNode.{record_of, same_node}
use Rattle.index_set.specs.Each.{EachOf}
use Rattle.index_set.specs.Lists.{settled_at}
use Rattle.index_set.proofs.Beside.{KeyedBeside}
use Rattle.index_set.proofs.Walk.{Walks, KeyedTo}
use Rattle.index_set.proofs.every.settle_each.Given as goal

abbrev pub invariant-loop-index : goal.invariant-loop-index
invariant-loop-index g l = record {
  walk : Walks (settled_at (g.E.Extract.order_of l.keys) (record_of l.initial.store) l.n) l.initial.store l.specs l.initial.indices l.index l.store l.indices;
  keyed : EachOf (KeyedTo (g.E.Extract.order_of l.keys) (marks_of g.E.Extract l.keys) l.store (without (same_node l.n)) l.index) l.specs l.indices;
  beside : EachOf (KeyedBeside (g.E.Extract.order_of l.keys) (marks_of g.E.Extract l.keys) l.specs l.changed l.store l.index) l.specs l.indices;
}
