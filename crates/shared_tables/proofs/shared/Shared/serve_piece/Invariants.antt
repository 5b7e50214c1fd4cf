use Rattle.std.proofs.Common.{◌≡◌, ◌<◌, ◌++◌, ℕ, [], List, length}
use Rattle.table_engine.specs.Stream.{Passes}
use Rattle.shared_tables.proofs.Reading.{Served}
use Rattle.shared_tables.proofs.shared.Shared.serve_piece.Given as goal

abbrev pub invariant-loop-length : goal.invariant-loop-length
invariant-loop-length g l = record {
  failures : l.sink.failures ≡ l.fn.sink.failures;
  few : length l.requests < 128;
  done : List ℕ;
  split : done ++ l.rest ≡ l.piece;
  told : List ℕ;
  served : Served l.self l.fn.pass l.fn.cutter.unfinished done told l.pass l.requests l.cutter.unfinished;
  passes : Passes (g.W.Write.contents l.fn.sink.inner) (g.W.Write.contents l.sink.inner) [] told l.out.bytes;
}

abbrev pub decreases-loop-length : goal.decreases-loop-length
decreases-loop-length g l = length l.rest
