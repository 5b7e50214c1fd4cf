use Rattle.std.proofs.Common.{◌≡◌, length}
use Rattle.index_set.specs.Each.{EachOf}
use Rattle.index_set.proofs.Emptied.{BareTo}
use Rattle.index_set.proofs.every.empty_each.Given as goal

abbrev pub invariant-loop-index : goal.invariant-loop-index
invariant-loop-index l = record {
  one_each : length l.indices ≡ length l.specs;
  bare : EachOf (BareTo l.index) l.specs l.indices;
}
