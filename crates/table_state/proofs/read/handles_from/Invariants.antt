use Rattle.std.proofs.Common.{◌≡◌, length}
use Rattle.table_schema.proofs.Readings.{Read}
use Rattle.table_state.specs.Parts.{handle_in}
use Rattle.table_state.proofs.read.handles_from.Given as goal

abbrev pub invariant-loop-text : goal.invariant-loop-text
invariant-loop-text l = record {
  read : Read handle_in l.texts l.text-index l.handles.items;
  count : length l.handles.items ≡ l.text-index;
}
