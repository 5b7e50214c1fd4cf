use Rattle.std.proofs.Common.{◌≡◌, ◌++◌, drop, map}
use Rattle.command_text.specs.Text.{handle_data, handles_data, items_of}
use Rattle.table_reply.specs.Printed.{data_tokens, list_tokens}
use Rattle.command_text.proofs.print.print_handles.Given as goal

abbrev pub invariant-loop-handle : goal.invariant-loop-handle
invariant-loop-handle l =
    let rest = list_tokens (items_of (map handle_data (drop l.handle-index l.handles))) in
    (l.line.before ≡ l.fn.line.before) × (l.line.tokens ++ rest ≡ l.fn.line.tokens ++ data_tokens (handles_data l.handles))
