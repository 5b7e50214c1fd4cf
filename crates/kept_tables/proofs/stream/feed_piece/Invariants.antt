use Rattle.std.proofs.Common.{◌≡◌, ℕ, ◌++◌, List, length}
use Rattle.table_engine.specs.Stream.{Feeds}
use Rattle.kept_tables.specs.Lines.{TellsText}
use Rattle.kept_tables.proofs.stream.feed_piece.Given as goal

abbrev pub invariant-loop-length : goal.invariant-loop-length
invariant-loop-length g l = record {
  done : List ℕ;
  split : done ++ l.rest ≡ l.piece;
  text : List ℕ;
  fed : Feeds TellsText l.fn.tables l.fn.cutter.unfinished done text l.tables l.cutter.unfinished;
  bytes : l.out.bytes ≡ l.fn.out.bytes ++ text;
}

abbrev pub decreases-loop-length : goal.decreases-loop-length
decreases-loop-length g l = length l.rest
