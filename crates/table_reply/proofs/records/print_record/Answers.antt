use Rattle.std.proofs.Common.{rules, append_assoc}
use Rattle.table_reply.proofs.records.print_record.Goals as goal

pub returns : goal.returns
returns c = search (rules, append_assoc)
