use Rattle.table_state.proofs.Putting.{counted_if, cut_off_if, putting_rest, why_if, written_if}
use Rattle.table_state.proofs.write.append_all.Goals as goal

pub returns-clause-written : goal.returns-clause-written
returns-clause-written g c = written_if _ _ _ _ _ _ _ c.in_ok-lines.ensures.0 c.flush.result (putting_rest _ _ _ c.in_ok-put_all.ensures.puts _ c.flush.result c.flush.ensures.puts) c.flush.ensures.all

pub returns-clause-cut_off : goal.returns-clause-cut_off
returns-clause-cut_off g c = cut_off_if _ _ _ _ _ _ _ c.in_ok-lines.ensures.0 c.flush.result (putting_rest _ _ _ c.in_ok-put_all.ensures.puts _ c.flush.result c.flush.ensures.puts)

pub returns-clause-size : goal.returns-clause-size
returns-clause-size g c = counted_if _ _ _ _ _ _ _ c.in_ok-lines.ensures.0 c.flush.result (putting_rest _ _ _ c.in_ok-put_all.ensures.puts _ c.flush.result c.flush.ensures.puts) c.flush.ensures.all

pub returns-clause-why : goal.returns-clause-why
returns-clause-why g c = why_if _ _ _ _ _ _ _ c.in_ok-lines.ensures.0 c.flush.result (putting_rest _ _ _ c.in_ok-put_all.ensures.puts _ c.flush.result c.flush.ensures.puts)
