use Rattle.std.proofs.Common.{◌≡◌, take, map}
use Rattle.command_lines.proofs.Cells.{value_at}
use Rattle.command_lines.proofs.parts.values_of.Given as goal

abbrev pub invariant-loop-value : goal.invariant-loop-value
invariant-loop-value l = l.key.items ≡ map value_at (take l.value-index l.values.items)
