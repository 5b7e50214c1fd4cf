use Rattle.std.proofs.Common.{subst}
use Rattle.std.specs.Io.KnownBytes.{Appends}
use Rattle.shared_tables.specs.Text.{journal_text}
use Rattle.table_engine.specs.Devices.{AppendsFront}
use Rattle.shared_tables.proofs.Lines.{lines_all, lines_front, lines_shown}
use Rattle.shared_tables.proofs.write.write_journals.Goals as goal

pub returns-in-Err-clause-front : goal.returns-in-Err-clause-front
returns-in-Err-clause-front g c =
    let contents = g.W.Write.contents in
    let old = contents c.args.sink.now.inner in
    let mid = contents c.loop-journal.sink.inner in
    let new = contents c.write_journal.new.sink.inner in
    let journals = c.args.journals.now in
    let front = subst (λ entries. AppendsFront mid new (journal_text entries)) c.deref.ensures.value c.in-Err.ensures.front in
    subst (λ text. AppendsFront old new text) (lines_shown journal_text (λ entries. entries.items) journals)
    (lines_front (λ entries. journal_text entries.items) old mid new journals c.loop-journal.journal-index c.journal-item.result
    c.loop-journal-test.true c.journal-item.is c.loop-journal.invariant.written front)

pub returns-clause-written : goal.returns-clause-written
returns-clause-written g c =
    let contents = g.W.Write.contents in
    let old = contents c.args.sink.now.inner in
    let new = contents c.loop-journal.sink.inner in
    let journals = c.args.journals.now in
    subst (λ text. Appends old new text) (lines_shown journal_text (λ entries. entries.items) journals)
    (lines_all (λ entries. journal_text entries.items) old new journals c.loop-journal.journal-index c.loop-journal-test.false c.loop-journal.invariant.written)
