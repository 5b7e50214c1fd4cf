use Rattle.std.proofs.Common.{◌≡◌, map, take}
use Rattle.table_cmd.specs.declared.command.Value.TheVariants.{Cell}
use Rattle.table_state.proofs.parts.values_of.Given as goal

abbrev pub invariant-loop-cell : goal.invariant-loop-cell
invariant-loop-cell l = l.values.items ≡ map Cell (take l.cell-index l.cells)
