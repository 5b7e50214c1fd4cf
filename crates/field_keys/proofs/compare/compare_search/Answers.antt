use Rattle.std.proofs.Common.{◌∙◌, sym}
use Rattle.field_keys.proofs.Steps.{seeks_leading, seeks_whole}
use Rattle.field_keys.proofs.compare.compare_search.Goals as goal

pub returns-then-is_leading : goal.returns-then-is_leading
returns-then-is_leading g c =
    c.compare_values.ensures
    ∙ seeks_leading c.args.parts.now (g.R.Fields.row_of c.args.a.now) c.values-values.result.now c.args.search.now c.values-values.ensures.value c.first_parts.result.now c.first_parts.ensures (sym c.is_leading.ensures ∙ c.if-is_leading.true)

pub returns-else-is_leading : goal.returns-else-is_leading
returns-else-is_leading g c =
    c.compare_values-else-is_leading.ensures
    ∙ seeks_whole c.args.parts.now (g.R.Fields.row_of c.args.a.now) c.values-values.result.now c.args.search.now c.values-values.ensures.value (sym c.is_leading.ensures ∙ c.if-is_leading.false)
