use Rattle.std.proofs.Common.{◌≡◌, ℕ, ◌++◌, List, length}
use Rattle.table_reply.specs.Buffer.{Keeps}
use Rattle.table_engine.specs.Stream.{Feeds}
use Rattle.table_engine.specs.Tables.{AnswersText}
use Rattle.table_engine.proofs.session.take_piece.Given as goal

abbrev pub invariant-loop-length : goal.invariant-loop-length
invariant-loop-length l = record {
  kept : Keeps l.fn.out l.out;
  first : length l.rest ≡ length l.piece → l.out.room ≡ l.fn.out.room;
  done : List ℕ;
  split : done ++ l.rest ≡ l.piece;
  text : List ℕ;
  fed : Feeds AnswersText l.fn.tables l.fn.cutter.unfinished done text l.tables l.cutter.unfinished;
  bytes : l.out.bytes ≡ l.fn.out.bytes ++ text;
}

abbrev pub decreases-loop-length : goal.decreases-loop-length
decreases-loop-length l = length l.rest
