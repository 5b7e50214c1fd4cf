use Rattle.std.proofs.Common.{◌≡◌, length}
use Rattle.table_schema.specs.Resolved.{part_of}
use Rattle.table_schema.proofs.Readings.{Read}
use Rattle.table_schema.proofs.resolve.key_of_texts.Given as goal

abbrev pub invariant-loop-text : goal.invariant-loop-text
invariant-loop-text l = record {
  read : Read (part_of l.columns) l.texts l.text-index l.parts.items;
  length : length l.parts.items ≡ l.text-index;
}
