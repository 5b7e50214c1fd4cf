use Rattle.std.proofs.Common.{◌≡◌, ℕ, List, length}
use Rattle.table_engine.specs.Stream.{Passes}
use Rattle.shared_tables.specs.Requests.{HearsSome}
use Rattle.shared_tables.proofs.shared.Shared.answer_all.Given as goal

abbrev pub invariant-loop-request : goal.invariant-loop-request
invariant-loop-request g l = record {
  failures : l.sink.failures ≡ l.fn.sink.failures;
  text : List ℕ;
  some : HearsSome l.self l.fn.pass l.fn.requests l.requests text l.pass;
  passes : Passes (g.W.Write.contents l.fn.sink.inner) (g.W.Write.contents l.sink.inner) l.fn.out.bytes text l.out.bytes;
}

abbrev pub decreases-loop-request : goal.decreases-loop-request
decreases-loop-request g l = length l.requests
