use Rattle.std.proofs.Common.{◌∙◌}
use Rattle.shared_tables.specs.Text.{entry_line}
use Rattle.shared_tables.proofs.Lines.{lines_front, lines_more}
use Rattle.shared_tables.proofs.write.write_journal.Goals as goal

pub returns-in-Err-clause-front : goal.returns-in-Err-clause-front
returns-in-Err-clause-front g c =
    let contents = g.W.Write.contents in
    lines_front entry_line (contents c.args.sink.now.inner) (contents c.loop-entry.sink.inner) (contents c.write_entry.new.sink.inner)
    c.args.journal.now c.loop-entry.entry-index c.entry-item.result c.loop-entry-test.true c.entry-item.is
    c.loop-entry.invariant.written c.in-Err.ensures.front

pub loop-entry-preserved : goal.loop-entry-preserved
loop-entry-preserved g c =
    let contents = g.W.Write.contents in
    record {
      written = lines_more entry_line (contents c.args.sink.now.inner) (contents c.loop-entry.sink.inner) (contents c.write_entry.new.sink.inner)
          c.args.journal.now c.loop-entry.entry-index c.entry-item.result c.loop-entry-test.true c.entry-item.is
          c.loop-entry.invariant.written c.in-Ok.ensures.written;
      failures = c.in-Ok.ensures.write_cause ∙ c.loop-entry.invariant.failures;
    }
