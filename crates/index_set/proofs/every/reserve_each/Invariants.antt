use Rattle.key_extract.specs.Digests.{Marks}
use Rattle.std.proofs.Common.{ℕ}
use Rattle.std.specs.declared.cmp.Ordering.{Ordering}
use Rattle.index_set.specs.Each.{EachOf}
use Rattle.index_set.specs.Indices.{AreKeyed}
use Rattle.index_set.proofs.Walk.{Walks, KeyedTo, RoomTo, SameFrom}
use Rattle.index_set.proofs.every.reserve_each.Given as goal

abbrev pub invariant-loop-index : goal.invariant-loop-index
invariant-loop-index g l = record {
  walk : Walks (λ _ _ xs. xs) l.initial.store l.specs l.initial.indices l.index l.store l.indices;
  keyed : (order : ℕ → g.row.R.Denot → g.row.R.Denot → Ordering) (marks : ℕ → g.row.R.Denot → Marks) → AreKeyed order marks l.initial.store l.specs l.initial.indices → EachOf (KeyedTo order marks l.store (λ xs. xs) l.index) l.specs l.indices;
  room : EachOf (RoomTo l.index) l.specs l.indices;
  rest : EachOf (SameFrom l.initial.indices l.index) l.specs l.indices;
}
