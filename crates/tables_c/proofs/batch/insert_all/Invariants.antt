use Rattle.std.proofs.Common.{◌≡◌, ◌-◌, length, take, drop}
use Rattle.tables_c.proofs.Batches.{GoesOn}
use Rattle.tables_c.proofs.batch.insert_all.Given as goal

abbrev pub invariant-loop-place : goal.invariant-loop-place
invariant-loop-place l = record {
  size : length l.handles ≡ length l.fn.handles;
  behind : drop l.place l.handles ≡ drop l.place l.fn.handles;
  on : GoesOn l.width l.many l.fn.records l.fn.cells l.fn.texts (l.many - l.place) l.records l.cells l.texts (take l.place l.handles);
}
