use Rattle.std.proofs.Common.{◌≡◌, drop}
use Rattle.serde_json.specs.View.{items_view}
use Rattle.command_lines.specs.Parts.{each_read, as_handle}
use Rattle.command_lines.proofs.Items.{read_on}
use Rattle.command_lines.proofs.parts.handles_said.Given as goal

abbrev pub invariant-loop-value : goal.invariant-loop-value
invariant-loop-value l = read_on as_handle l.handles.items (drop l.value-index l.values.items) ≡ each_read as_handle (items_view l.values.items)
