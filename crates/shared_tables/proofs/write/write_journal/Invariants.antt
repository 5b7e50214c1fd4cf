use Rattle.std.proofs.Common.{◌≡◌, take}
use Rattle.std.specs.Io.KnownBytes.{Appends}
use Rattle.shared_tables.specs.Text.{journal_text}
use Rattle.shared_tables.proofs.write.write_journal.Given as goal

abbrev pub invariant-loop-entry : goal.invariant-loop-entry
invariant-loop-entry g l = record {
  written : Appends (g.W.Write.contents l.fn.sink.inner) (g.W.Write.contents l.sink.inner) (journal_text (take l.entry-index l.journal));
  failures : l.sink.failures ≡ l.fn.sink.failures;
}
