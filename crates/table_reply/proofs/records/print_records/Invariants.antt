use Rattle.std.proofs.Common.{◌≡◌, ◌++◌, drop, map}
use Rattle.table_reply.specs.Answer.{listed_of, listed_items}
use Rattle.table_reply.specs.Printed.{list_tokens}
use Rattle.table_reply.proofs.records.print_records.Given as goal

abbrev pub invariant-loop-shown : goal.invariant-loop-shown
invariant-loop-shown l =
    let rest = list_tokens (listed_items (map (listed_of l.headings) (drop l.shown-index l.records))) in
    (l.line.before ≡ l.fn.line.before) × (l.line.tokens ++ rest ≡ l.fn.line.tokens ++ list_tokens (listed_items (map (listed_of l.headings) l.records)))
