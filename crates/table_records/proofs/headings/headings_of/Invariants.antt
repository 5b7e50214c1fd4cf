use Rattle.std.proofs.Common.{◌≡◌, [], drop}
use Rattle.list_model.specs.Place.{sorted_onto}
use Rattle.table_records.specs.Headings.{heading_cmp, numbered}
use Rattle.table_records.proofs.headings.headings_of.Given as goal

abbrev pub invariant-loop-place : goal.invariant-loop-place
invariant-loop-place l =
    sorted_onto heading_cmp l.headings.items (numbered l.place (drop l.place l.columns)) ≡ sorted_onto heading_cmp [] (numbered 0 l.columns)
