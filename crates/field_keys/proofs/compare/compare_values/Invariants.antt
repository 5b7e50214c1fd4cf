use Rattle.std.proofs.Common.{◌≡◌, drop, map}
use Rattle.key_extract.specs.Keys.{probe_cmp}
use Rattle.field_keys.specs.Fields.{part_of}
use Rattle.field_keys.specs.Values.{value_cell}
use Rattle.field_keys.specs.Sought.{padded}
use Rattle.field_keys.proofs.compare.compare_values.Given as goal

abbrev pub invariant-loop-place : goal.invariant-loop-place
invariant-loop-place g l =
    probe_cmp (map part_of (drop l.place l.parts)) (g.R.Fields.row_of l.a) (padded (map part_of (drop l.place l.parts)) (drop l.place (map value_cell l.values)))
    ≡ probe_cmp (map part_of l.parts) (g.R.Fields.row_of l.a) (padded (map part_of l.parts) (map value_cell l.values))
