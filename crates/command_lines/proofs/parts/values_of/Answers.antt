use Rattle.std.proofs.Common.{sym, ap, ◌∙◌, map, arith}
use Rattle.std.proofs.lemmas.List.{take_all}
use Rattle.command_lines.proofs.Cells.{value_at, values_of_items_view}
use Rattle.command_lines.proofs.parts.values_of.Goals as goal

pub returns : goal.returns
returns c =
    let values = c.args.values.now.items in
    c.new.ensures ∙ c.loop-value.invariant ∙ ap (map value_at) (take_all c.loop-value.value-index values (omega arith)) ∙ sym (values_of_items_view values)
