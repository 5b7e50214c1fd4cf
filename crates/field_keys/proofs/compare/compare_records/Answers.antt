use Rattle.std.proofs.Common.{◌≡◌, get_or}
use Rattle.key_extract.specs.Keys.{part_cmp}
use Rattle.field_keys.specs.declared.part.KeyPart.TheVariants.{Rising}
use Rattle.field_keys.specs.Fields.{part_of}
use Rattle.field_keys.proofs.Steps.{records_differ, records_agree}
use Rattle.field_keys.proofs.compare.compare_records.Goals as goal

pub returns-in_default : goal.returns-in_default
returns-in_default g c =
    let d = Rising 0 in
    let here : c.compare_part.result ≡ part_cmp (part_of (get_or c.args.parts.now c.loop-part.part-index d)) (g.R.Fields.row_of c.args.a.now) (g.R.Fields.row_of c.args.b.now) = cc in
    records_differ c.args.parts.now (g.R.Fields.row_of c.args.a.now) (g.R.Fields.row_of c.args.b.now) c.loop-part.part-index d c.compare_part.result _ c.loop-part-test.true here c.loop-part.invariant c.in_default.not-Equal

pub loop-part-preserved : goal.loop-part-preserved
loop-part-preserved g c =
    let d = Rising 0 in
    let here : c.compare_part.result ≡ part_cmp (part_of (get_or c.args.parts.now c.loop-part.part-index d)) (g.R.Fields.row_of c.args.a.now) (g.R.Fields.row_of c.args.b.now) = cc in
    records_agree c.args.parts.now (g.R.Fields.row_of c.args.a.now) (g.R.Fields.row_of c.args.b.now) c.loop-part.part-index d c.compare_part.result _ c.loop-part-test.true here c.loop-part.invariant c.in-Equal.is
