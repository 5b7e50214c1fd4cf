use Rattle.std.proofs.Common.{[], ◌++◌, take, get_or, refl, sym, subst, ◌∙◌, arith}
use Rattle.table_engine.specs.declared.event.Event.{Event}
use Rattle.table_engine.specs.declared.event.Event.TheVariants.{Piece}
use Rattle.table_engine.specs.Run.{Run, Tells, Waits, room_at}
use Rattle.table_engine.specs.Events.{signals, signals_of}
use Rattle.table_engine.proofs.Runs.{Run-append}
use Rattle.table_engine.proofs.Told.{KeepsEach-same, KeepsEach-then, Run-length, Tells-none, Tells-then}
use Rattle.table_engine.proofs.Events.{signals-more, signals-front, waiting-at}
use Rattle.table_engine.proofs.run.run_events.Goals as goal

abbrev blank : Event
blank = Piece 0 (record { ref_ptr = (0, 0); now = [] })

pub loop-event-init : goal.loop-event-init
loop-event-init c = record {
  counted = refl;
  sessions = sym c.requires.one_out_each;
  told = [];
  run = refl;
  tells = Tells-none c.args.outs.now;
  kept = KeepsEach-same c.args.outs.now;
}

pub loop-event-preserved : goal.loop-event-preserved
loop-event-preserved c =
    let loop = c.loop-event in
    let events = c.args.events.now in
    let done = loop.invariant.told in
    let h = c.in-Ok.ensures.run in
    let told = done ++ h.0 in
    let before = signals (take loop.event-index events) in
    let here = signals_of (get_or events loop.event-index blank) in
    let more = signals-more events loop.event-index blank (omega arith) in
    record {
      counted = omega arith;
      sessions = c.in-Ok.ensures.sessions ∙ loop.invariant.sessions;
      told = told;
      run = subst (λ ss. Run c.args.engine.now ss told c.take_event.new.engine) (sym more)
          (Run-append c.args.engine.now loop.engine c.take_event.new.engine before here done h.0 loop.invariant.run h.1);
      tells = subst (λ ss. Tells c.args.outs.now ss told c.take_event.new.outs) (sym more)
          (Tells-then c.args.outs.now loop.outs c.take_event.new.outs before here done h.0 (Run-length c.args.engine.now loop.engine before done loop.invariant.run) loop.invariant.tells h.2);
      kept = KeepsEach-then c.args.outs.now loop.outs c.take_event.new.outs loop.invariant.tells.sessions loop.invariant.kept c.in-Ok.ensures.kept;
    }

pub returns-in-Err-clause-run : goal.returns-in-Err-clause-run
returns-in-Err-clause-run c =
    let loop = c.loop-event in
    let events = c.args.events.now in
    let done = loop.invariant.told in
    let h = c.in-Err.ensures.run in
    let told = done ++ h.0 in
    let before = signals (take loop.event-index events) in
    let here = take c.in-Err.stop.taken (signals_of (get_or events loop.event-index blank)) in
    let within = c.in-Err.ensures.stopped in
    let front = signals-front events loop.event-index c.in-Err.stop.taken blank (omega arith) (omega (arith, within)) in
    let run = Run-append c.args.engine.now loop.engine c.take_event.new.engine before here done h.0 loop.invariant.run h.1 in
    let tells = Tells-then c.args.outs.now loop.outs c.take_event.new.outs before here done h.0 (Run-length c.args.engine.now loop.engine before done loop.invariant.run) loop.invariant.tells h.2 in
    (told, rw (loop.invariant.counted, front) run, rw (loop.invariant.counted, front) tells)

pub returns-in-Err-clause-waits : goal.returns-in-Err-clause-waits
returns-in-Err-clause-waits c =
    let loop = c.loop-event in
    let events = c.args.events.now in
    let same = waiting-at events (record { event = loop.count; taken = c.in-Err.stop.taken }) loop.event-index blank loop.invariant.counted (omega arith) in
    subst (Waits c.take_event.new.engine (room_at c.take_event.new.outs)) (sym same) c.in-Err.ensures.waits

pub returns-in-Err-clause-kept : goal.returns-in-Err-clause-kept
returns-in-Err-clause-kept c =
    let loop = c.loop-event in
    KeepsEach-then c.args.outs.now loop.outs c.take_event.new.outs loop.invariant.tells.sessions loop.invariant.kept c.in-Err.ensures.kept
