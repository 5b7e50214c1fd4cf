use Rattle.std.proofs.Common.{◌≡◌, length}
use Rattle.std.specs.List.{zip}
use Rattle.table_schema.proofs.Readings.{Read}
use Rattle.table_state.proofs.Rows.{cell_of_pair}
use Rattle.table_state.proofs.read.row_from.Given as goal

abbrev pub invariant-loop-place : goal.invariant-loop-place
invariant-loop-place l = record {
  read : Read cell_of_pair (zip l.columns l.values) l.place l.cells.items;
  count : length l.cells.items ≡ l.place;
}
