use Rattle.std.proofs.Common.{map}
use Rattle.table_reply.specs.Answer.{answer_data, answer_text, listed, listed_of}
use Rattle.table_reply.proofs.Printed.{printed}
use Rattle.table_reply.proofs.records.write_records.Goals as goal

pub returns : goal.returns
unfolding answer_text
returns c =
    printed c.print_listed-printed.result c.push_line.result c.args.out.now c.push_line.new.out c.in_ok-line.line c.print_listed-printed.new.line (answer_data (listed c.args.at (map (listed_of c.args.headings.now) c.args.records.now))) c.in_ok-line.ensures c.print_listed-printed.ensures c.push_line.ensures
