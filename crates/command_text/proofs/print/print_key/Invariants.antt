use Rattle.std.proofs.Common.{◌≡◌, ◌++◌, drop, map}
use Rattle.command_text.specs.Text.{value_data, key_data, items_of}
use Rattle.table_reply.specs.Printed.{data_tokens, list_tokens}
use Rattle.command_text.proofs.print.print_key.Given as goal

abbrev pub invariant-loop-value : goal.invariant-loop-value
invariant-loop-value l =
    let rest = list_tokens (items_of (map value_data (drop l.value-index l.values))) in
    (l.line.before ≡ l.fn.line.before) × (l.line.tokens ++ rest ≡ l.fn.line.tokens ++ data_tokens (key_data l.values))
