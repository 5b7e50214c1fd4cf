use Rattle.std.proofs.Common.{◌≡◌, drop}
use Rattle.table_terms.specs.Values.{value_named}
use Rattle.table_terms.proofs.values.value_named.Given as goal

abbrev pub invariant-loop-field : goal.invariant-loop-field
invariant-loop-field l = value_named l.name (drop l.field-index l.fields) ≡ value_named l.name l.fields
