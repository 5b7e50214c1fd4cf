use Rattle.std.proofs.Common.{◌≡◌, ◌++◌, drop, map}
use Rattle.serde_json.specs.Data.{string}
use Rattle.command_text.specs.Text.{names_data, items_of}
use Rattle.table_reply.specs.Printed.{data_tokens, list_tokens}
use Rattle.command_text.proofs.print.print_names.Given as goal

abbrev pub invariant-loop-name : goal.invariant-loop-name
invariant-loop-name l =
    let rest = list_tokens (items_of (map (λ n. string n) (drop l.name-index l.names))) in
    (l.line.before ≡ l.fn.line.before) × (l.line.tokens ++ rest ≡ l.fn.line.tokens ++ data_tokens (names_data l.names))
