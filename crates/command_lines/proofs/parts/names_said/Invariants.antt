use Rattle.std.proofs.Common.{◌≡◌, drop}
use Rattle.serde_json.specs.View.{items_view}
use Rattle.serde_json.specs.Find.{as_str}
use Rattle.command_lines.specs.Parts.{each_read}
use Rattle.command_lines.proofs.Items.{read_on}
use Rattle.command_lines.proofs.parts.names_said.Given as goal

abbrev pub invariant-loop-value : goal.invariant-loop-value
invariant-loop-value l = read_on as_str l.names.items (drop l.value-index l.values.items) ≡ each_read as_str (items_view l.values.items)
