use Rattle.table_terms.proofs.Steps.{read_is_short}
use Rattle.table_terms.proofs.tell.tell_read.Goals as goal

pub returns-clause-told : goal.returns-clause-told
returns-clause-told c = record { behind = c.tell.ensures.behind; short = read_is_short c.tell.result.what c.args.out.out.now.bytes c.tell.result.out.now.bytes _ c.tell.ensures.line }
