use Rattle.std.proofs.Common.{◌≡◌, ◌++◌}
use Rattle.serde_json.specs.View.{members_view}
use Rattle.command_lines.specs.Parts.{fields_of}
use Rattle.command_lines.proofs.parts.fields_of.Given as goal

abbrev pub invariant-loop-name : goal.invariant-loop-name
invariant-loop-name l =
    l.row.items ++ fields_of (members_view l.name-iterator) ≡ fields_of (members_view l.members.entries)
