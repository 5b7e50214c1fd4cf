use Rattle.std.proofs.Common.{◌≡◌, drop, map}
use Rattle.key_extract.specs.Keys.{key_cmp}
use Rattle.field_keys.specs.Fields.{part_of}
use Rattle.field_keys.proofs.compare.compare_records.Given as goal

abbrev pub invariant-loop-part : goal.invariant-loop-part
invariant-loop-part g l = key_cmp (map part_of (drop l.part-index l.parts)) (g.R.Fields.row_of l.a) (g.R.Fields.row_of l.b) ≡ key_cmp (map part_of l.parts) (g.R.Fields.row_of l.a) (g.R.Fields.row_of l.b)
