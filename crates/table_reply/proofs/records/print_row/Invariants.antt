use Rattle.std.proofs.Common.{◌≡◌, ◌++◌, drop}
use Rattle.json.specs.Tree.{members_tokens}
use Rattle.serde_json.specs.Written.{members_outline}
use Rattle.table_reply.specs.Answer.{named, row_data, row_members}
use Rattle.table_reply.specs.Printed.{data_tokens}
use Rattle.table_reply.proofs.records.print_row.Given as goal

abbrev pub invariant-loop-heading : goal.invariant-loop-heading
invariant-loop-heading l =
    let rest = members_tokens (members_outline (row_members (named (drop l.heading-index l.headings) l.cells))) in
    (l.line.before ≡ l.fn.line.before) × (l.line.tokens ++ rest ≡ l.fn.line.tokens ++ data_tokens (row_data (named l.headings l.cells)))
