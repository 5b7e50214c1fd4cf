use Rattle.std.proofs.Common.{◌≡◌, ◌<◌, ℕ, [], List, length}
use Rattle.std.specs.Io.KnownBytes.{Consumes, Appends}
use Rattle.table_engine.specs.Devices.{raised_by}
use Rattle.table_engine.specs.Stream.{Feeds}
use Rattle.shared_tables.specs.Serving.{HearsText}
use Rattle.shared_tables.proofs.shared.Shared.serve_pieces.Given as goal

abbrev pub invariant-loop : goal.invariant-loop
invariant-loop g l = record {
  piece : length l.piece ≡ 4096;
  empty : l.out.bytes ≡ [];
  none : l.requests ≡ [];
  unread : l.counter ≡ 0 → l.source.reads ≡ l.fn.source.reads;
  reads : 0 < l.counter → l.source.reads ≡ raised_by l.counter l.fn.source.reads;
  failures : l.source.failures ≡ l.fn.source.failures;
  ends : l.source.ends ≡ l.fn.source.ends;
  unwritten : l.sink.failures ≡ l.fn.sink.failures;
  bytes : List ℕ;
  consumed : Consumes (g.R.Read.remaining l.fn.source.inner) (g.R.Read.remaining l.source.inner) bytes;
  text : List ℕ;
  fed : Feeds (HearsText l.self) l.fn.pass l.fn.cutter.unfinished bytes text l.pass l.cutter.unfinished;
  written : Appends (g.W.Write.contents l.fn.sink.inner) (g.W.Write.contents l.sink.inner) text;
}
