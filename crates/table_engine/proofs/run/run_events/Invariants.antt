use Rattle.std.proofs.Common.{◌≡◌, ℕ, List, take, length}
use Rattle.table_engine.specs.Run.{KeepsEach, Run, Tells}
use Rattle.table_engine.specs.Events.{signals}
use Rattle.table_engine.proofs.run.run_events.Given as goal

abbrev pub invariant-loop-event : goal.invariant-loop-event
invariant-loop-event l = record {
  counted : l.count ≡ l.event-index;
  sessions : length l.engine.unfinished ≡ length l.fn.outs;
  told : List (List ℕ);
  run : Run l.fn.engine (signals (take l.event-index l.events)) told l.engine;
  tells : Tells l.fn.outs (signals (take l.event-index l.events)) told l.outs;
  kept : KeepsEach l.fn.outs l.outs;
}
