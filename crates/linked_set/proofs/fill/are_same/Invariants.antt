use Rattle.std.proofs.Common.{◌≡◌, length, take}
use Rattle.linked_set.proofs.fill.are_same.Given as goal

abbrev pub invariant-loop-place : goal.invariant-loop-place
invariant-loop-place l = record {
  same : take l.place l.given ≡ take l.place l.listed;
  as_many : length l.given ≡ length l.listed;
}
