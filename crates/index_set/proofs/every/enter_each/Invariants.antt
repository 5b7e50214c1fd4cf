use Rattle.any_index.specs.Keyed.{marks_of}
use Rattle.node_store.specs.Store.{age_of}
use Rattle.node_store.specs.ByNode.{record_of}
use Rattle.index_set.specs.Each.{EachOf}
use Rattle.index_set.specs.Lists.{entered_at}
use Rattle.index_set.proofs.Walk.{Walks, KeyedTo, RoomFrom}
use Rattle.index_set.proofs.every.enter_each.Given as goal

abbrev pub invariant-loop-index : goal.invariant-loop-index
invariant-loop-index g l = record {
  walk : Walks (entered_at (g.E.Extract.order_of l.keys) (record_of l.initial.store) (age_of l.initial.store) l.at l.n) l.initial.store l.specs l.initial.indices l.index l.store l.indices;
  keyed : EachOf (KeyedTo (g.E.Extract.order_of l.keys) (marks_of g.E.Extract l.keys) l.store (λ xs. xs) l.index) l.specs l.indices;
  room : EachOf (RoomFrom l.index) l.specs l.indices;
}
