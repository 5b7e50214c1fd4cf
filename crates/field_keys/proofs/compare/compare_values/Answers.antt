use Rattle.std.proofs.Common.{◌≡◌, get_or, map}
use Rattle.key_extract.specs.declared.cell.Cell.TheVariants.{Null}
use Rattle.field_keys.specs.declared.part.KeyPart.TheVariants.{Rising}
use Rattle.field_keys.specs.Fields.{part_of}
use Rattle.field_keys.specs.Values.{value_cell, value_side}
use Rattle.field_keys.proofs.Steps.{values_differ, values_agree, values_at_end}
use Rattle.field_keys.proofs.compare.compare_values.Goals as goal

pub returns-in_default : goal.returns-in_default
returns-in_default g c =
    let here : c.compare_value.result ≡ value_side (part_of (get_or c.args.parts.now c.loop-place.place (Rising 0))) (g.R.Fields.row_of c.args.a.now) (get_or (map value_cell c.args.values.now) c.loop-place.place Null) = cc in
    values_differ c.args.parts.now (g.R.Fields.row_of c.args.a.now) (map value_cell c.args.values.now) c.loop-place.place (Rising 0) c.compare_value.result _ c.loop-place-test.true here c.loop-place.invariant c.in_default.not-Equal

pub loop-place-preserved : goal.loop-place-preserved
loop-place-preserved g c =
    let here : c.compare_value.result ≡ value_side (part_of (get_or c.args.parts.now c.loop-place.place (Rising 0))) (g.R.Fields.row_of c.args.a.now) (get_or (map value_cell c.args.values.now) c.loop-place.place Null) = cc in
    values_agree c.args.parts.now (g.R.Fields.row_of c.args.a.now) (map value_cell c.args.values.now) c.loop-place.place (Rising 0) c.compare_value.result _ c.loop-place-test.true here c.loop-place.invariant c.in-Equal.is

pub returns : goal.returns
returns g c = values_at_end c.args.parts.now (g.R.Fields.row_of c.args.a.now) (map value_cell c.args.values.now) c.loop-place.place _ c.loop-place-test.false c.loop-place.invariant
