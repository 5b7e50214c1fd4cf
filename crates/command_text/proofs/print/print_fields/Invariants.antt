use Rattle.std.proofs.Common.{◌≡◌, ◌++◌, drop}
use Rattle.json.specs.Tree.{members_tokens}
use Rattle.serde_json.specs.Written.{members_outline}
use Rattle.command_text.specs.Text.{field_members, fields_data}
use Rattle.table_reply.specs.Printed.{data_tokens}
use Rattle.command_text.proofs.print.print_fields.Given as goal

abbrev pub invariant-loop-field : goal.invariant-loop-field
invariant-loop-field l =
    let rest = members_tokens (members_outline (field_members (drop l.field-index l.fields))) in
    (l.line.before ≡ l.fn.line.before) × (l.line.tokens ++ rest ≡ l.fn.line.tokens ++ data_tokens (fields_data l.fields))
