use Rattle.std.proofs.Common.{◌≡◌, take}
use Rattle.std.specs.List.{flat_map}
use Rattle.std.specs.Io.KnownBytes.{Appends}
use Rattle.shared_tables.specs.Text.{journal_text}
use Rattle.shared_tables.proofs.write.write_journals.Given as goal

abbrev pub invariant-loop-journal : goal.invariant-loop-journal
invariant-loop-journal g l = record {
  written : Appends (g.W.Write.contents l.fn.sink.inner) (g.W.Write.contents l.sink.inner) (flat_map (λ entries. journal_text entries.items) (take l.journal-index l.journals));
  failures : l.sink.failures ≡ l.fn.sink.failures;
}
