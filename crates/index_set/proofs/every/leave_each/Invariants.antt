use Rattle.key_extract.specs.Digests.{Marks}
use Rattle.std.proofs.Common.{ℕ}
use Rattle.std.specs.declared.cmp.Ordering.{Ordering}
use Rattle.list_model.specs.Walk.{without}
use Rattle.node_store.specs.ByNode.{same_node}
use Rattle.index_set.specs.Each.{EachOf}
use Rattle.index_set.specs.Indices.{AreKeyedBut}
use Rattle.index_set.proofs.Walk.{Walks, KeyedTo, RoomTo}
use Rattle.index_set.proofs.every.leave_each.Given as goal

abbrev pub invariant-loop-index : goal.invariant-loop-index
invariant-loop-index g l = record {
  walk : Walks (λ _ _. without (same_node l.n)) l.initial.store l.specs l.initial.indices l.index l.store l.indices;
  keyed : (order : ℕ → g.row.R.Denot → g.row.R.Denot → Ordering) (marks : ℕ → g.row.R.Denot → Marks) → AreKeyedBut order marks l.initial.store l.specs l.initial.indices l.n → EachOf (KeyedTo order marks l.store (without (same_node l.n)) l.index) l.specs l.indices;
  room : EachOf (RoomTo l.index) l.specs l.indices;
}
