use Rattle.table_reply.specs.Answer.{answer_data, answer_text, shown, listed_of}
use Rattle.table_reply.proofs.Printed.{printed}
use Rattle.table_reply.proofs.records.write_record.Goals as goal

pub returns : goal.returns
unfolding answer_text
returns c =
    printed c.print_shown-printed.result c.push_line.result c.args.out.now c.push_line.new.out c.in_ok-line.line c.print_shown-printed.new.line (answer_data (shown c.args.at (listed_of c.args.headings.now c.args.record.now))) c.in_ok-line.ensures c.print_shown-printed.ensures c.push_line.ensures
