use Rattle.std.proofs.Common.{◌≡◌, ap, ◌∙◌, arith, w64}
use Rattle.std.specs.Prelude.{unsigned_abs}
use Rattle.std.proofs.lemmas.Int.{to_z-of_z}
use Rattle.table_schema.proofs.Validity.{max_fits}
use Rattle.table_schema.proofs.resolve.most_records.Goals as goal

pub overflow_cast-result : goal.overflow_cast-result
overflow_cast-result c =
    let m = max_fits c.args.max c.requires in
    let e : c.unsigned_abs.result ≡ unsigned_abs c.args.max = c.unsigned_abs.ensures.value ∙ ap unsigned_abs (to_z-of_z w64 c.args.max c.ranges.max) in
    omega arith
