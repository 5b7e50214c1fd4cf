use Rattle.std.proofs.Common.{◌≡◌, ◌++◌, ℕ, [], List, length}
use Rattle.table_engine.specs.Stream.{Feeds, Passes}
use Rattle.table_engine.proofs.serve.serve_piece.Given as goal

abbrev pub invariant-loop-length : goal.invariant-loop-length
invariant-loop-length g l = record {
  failures : l.sink.failures ≡ l.fn.sink.failures;
  done : List ℕ;
  split : done ++ l.rest ≡ l.piece;
  told : List ℕ;
  fed : Feeds (g.T.Answers.tells l.seat) l.fn.answers l.fn.cutter.unfinished done told l.answers l.cutter.unfinished;
  passes : Passes (g.W.Write.contents l.fn.sink.inner) (g.W.Write.contents l.sink.inner) [] told l.out.bytes;
}

abbrev pub decreases-loop-length : goal.decreases-loop-length
decreases-loop-length g l = length l.rest
