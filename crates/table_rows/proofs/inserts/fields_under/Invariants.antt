use Rattle.std.proofs.Common.{◌≡◌, map, take}
use Rattle.table_rows.specs.Inserts.{field_under}
use Rattle.table_rows.proofs.inserts.fields_under.Given as goal

abbrev pub invariant-loop-heading : goal.invariant-loop-heading
invariant-loop-heading l = l.fields.items ≡ map (field_under l.cells) (take l.heading-index l.headings)
