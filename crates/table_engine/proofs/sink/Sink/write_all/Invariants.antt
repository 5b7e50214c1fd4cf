use Rattle.std.proofs.Common.{◌≡◌, ◌++◌, ℕ, List, length}
use Rattle.std.specs.Io.KnownBytes.{Appends}
use Rattle.table_engine.proofs.sink.Sink.write_all.Given as goal

abbrev pub invariant-loop-rest : goal.invariant-loop-rest
invariant-loop-rest g l = record {
  done : List ℕ;
  split : done ++ l.rest ≡ l.bytes;
  written : Appends (g.W.Write.contents l.fn.self.inner) (g.W.Write.contents l.self.inner) done;
  failures : l.self.failures ≡ l.fn.self.failures;
}

abbrev pub decreases-loop-rest : goal.decreases-loop-rest
decreases-loop-rest g l = length l.rest
