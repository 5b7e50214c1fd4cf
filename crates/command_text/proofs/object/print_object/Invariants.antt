use Rattle.std.proofs.Common.{◌≡◌, ◌++◌, drop, map}
use Rattle.json.specs.Tree.{members_tokens}
use Rattle.serde_json.specs.Written.{members_outline}
use Rattle.table_reply.specs.Printed.{data_tokens}
use Rattle.command_text.specs.Part.{named_data, parts_data}
use Rattle.command_text.specs.Text.{members_of}
use Rattle.command_text.proofs.object.print_object.Given as goal

abbrev pub invariant-loop-key : goal.invariant-loop-key
invariant-loop-key l =
    let rest = members_tokens (members_outline (members_of (map named_data (drop l.key-index l.parts)))) in
    (l.line.before ≡ l.fn.line.before) × (l.line.tokens ++ rest ≡ l.fn.line.tokens ++ data_tokens (parts_data l.parts))
