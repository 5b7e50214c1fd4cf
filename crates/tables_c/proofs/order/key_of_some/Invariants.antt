use Rattle.std.proofs.Common.{◌≡◌, length}
use Rattle.table_schema.proofs.Readings.{Read}
use Rattle.tables_c.specs.Rows.{part_of}
use Rattle.tables_c.proofs.order.key_of_some.Given as goal

abbrev pub invariant-loop-part : goal.invariant-loop-part
invariant-loop-part l = record {
  read : Read (part_of l.columns) l.parts l.part-index l.key.items;
  length : length l.key.items ≡ l.part-index;
}
