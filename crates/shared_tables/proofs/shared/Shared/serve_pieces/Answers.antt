use Rattle.std.proofs.Common.{◌≡◌, [], ◌++◌, Err, length, take, refl, ap, subst, ◌∙◌, append-nil, inl, inr, arith}
use Rattle.std.proofs.KnownBytes.{Appends-nil, Appends-trans, Consumes-kept, Consumes-nil, Consumes-trans}
use Rattle.table_engine.specs.Devices.{raised, raised_by}
use Rattle.table_engine.specs.Outcomes.{failures_after_stop}
use Rattle.table_engine.specs.Stream.{Breaks, Meets}
use Rattle.table_engine.proofs.Devices.{AppendsFront-after, Stops-no_memory, Stops-no_read, Stops-refused, Stops-write, consumes_nothing, kept_count, one_end, read_more}
use Rattle.table_engine.proofs.Feeds.{all_after, breaks_after, feeds_then, meets_after}
use Rattle.table_engine.proofs.Results.{OnOk-both}
use Rattle.shared_tables.specs.Serving.{HearsText, RefusesText}
use Rattle.shared_tables.proofs.shared.Shared.serve_pieces.Goals as goal

pub loop-init : goal.loop-init
loop-init g c = record {
  piece = refl;
  empty = c.requires.empty;
  none = c.requires.none;
  unread = λ e. refl;
  reads = λ h. absurd (omega arith);
  failures = refl;
  ends = refl;
  unwritten = refl;
  bytes = [];
  consumed = Consumes-nil (g.R.Read.remaining c.args.source.now.inner);
  text = [];
  fed = (refl, refl, refl);
  written = Appends-nil (g.W.Write.contents c.args.sink.now.inner);
}

pub loop-preserved : goal.loop-preserved
loop-preserved g c =
    let remaining = g.R.Read.remaining in
    let contents = g.W.Write.contents in
    let tells = HearsText c.args.self.now in
    let inv = c.loop.invariant in
    let read = c.in-Ok.ensures.bytes in
    let piece = take c.in-Ok.n c.read.new.buf in
    let served = c.in-Ok-serve_piece.ensures.served in
    let new = c.serve_piece.new in
    record {
      piece = c.read.auto.buf ∙ inv.piece;
      empty = c.in-Ok-serve_piece.ensures.empty;
      none = c.in-Ok-serve_piece.ensures.none;
      unread = λ e. absurd (omega arith);
      reads = λ h. read_more c.loop.counter c.args.source.now.reads c.loop.source.reads c.read.new.self.reads inv.unread inv.reads c.in-Ok.ensures.reads;
      failures = c.in-Ok.ensures.failures ∙ inv.failures;
      ends = c.in-Ok.ensures.ends ∙ (kept_count c.in-Ok.n (length c.loop.piece) c.loop.source.ends c.if-n-eq0.false ∙ inv.ends);
      unwritten = c.in-Ok-serve_piece.ensures.failures ∙ inv.unwritten;
      bytes = inv.bytes ++ piece;
      consumed = Consumes-trans (remaining c.args.source.now.inner) (remaining c.loop.source.inner) (remaining c.read.new.self.inner) inv.bytes piece inv.consumed read.0;
      text = inv.text ++ served.0;
      fed = feeds_then tells c.args.pass.now c.loop.pass new.pass c.args.cutter.now.unfinished c.loop.cutter.unfinished new.cutter.unfinished inv.bytes piece inv.text served.0 inv.fed served.1;
      written = Appends-trans (contents c.args.sink.now.inner) (contents c.loop.sink.inner) (contents new.sink.inner) inv.text served.0 inv.written served.2;
    }

-- ---- at the end of the stream

pub returns-then-n-eq0-clause-served : goal.returns-then-n-eq0-clause-served
returns-then-n-eq0-clause-served g c =
    let remaining = g.R.Read.remaining in
    let contents = g.W.Write.contents in
    let inv = c.loop.invariant in
    let read = c.in-Ok.ensures.bytes in
    let size : length c.read.new.buf ≡ length c.loop.piece = c.read.auto.buf in
    let at = inv.piece in
    OnOk-both c.serve_end.result _ c.serve_end.ensures.served c.serve_end.ensures.failures (λ last failures. record {
      bytes = inv.bytes;
      read = consumes_nothing (remaining c.args.source.now.inner) (remaining c.loop.source.inner) (remaining c.read.new.self.inner) inv.bytes c.in-Ok.n c.read.new.buf c.if-n-eq0.true inv.consumed read.0;
      ended = read.1 c.if-n-eq0.true (omega arith);
      text = inv.text ++ last.0;
      is_told = all_after (HearsText c.args.self.now) c.args.pass.now c.loop.pass c.serve_end.new.pass c.args.cutter.now.unfinished c.loop.cutter.unfinished inv.bytes inv.text last.0 inv.fed last.1;
      written = Appends-trans (contents c.args.sink.now.inner) (contents c.loop.sink.inner) (contents c.serve_end.new.sink.inner) inv.text last.0 inv.written last.2;
      ends = c.in-Ok.ensures.ends ∙ (one_end c.in-Ok.n (length c.loop.piece) c.loop.source.ends c.if-n-eq0.true (omega arith) ∙ ap raised inv.ends);
      all_read = c.in-Ok.ensures.failures ∙ inv.failures;
      all_written = failures ∙ inv.unwritten;
    })

pub returns-then-n-eq0-clause-read : goal.returns-then-n-eq0-clause-read
returns-then-n-eq0-clause-read g c = λ e. absurd (Stops-no_read c.serve_end.result _ _ c.serve_end.ensures.stopped e)

pub returns-then-n-eq0-clause-write : goal.returns-then-n-eq0-clause-write
returns-then-n-eq0-clause-write g c = λ e.
    let remaining = g.R.Read.remaining in
    let contents = g.W.Write.contents in
    let inv = c.loop.invariant in
    let read = c.in-Ok.ensures.bytes in
    let tells = HearsText c.args.self.now in
    let last = Stops-write c.serve_end.result _ _ c.serve_end.ensures.stopped e in
    record {
      bytes = inv.bytes;
      read = consumes_nothing (remaining c.args.source.now.inner) (remaining c.loop.source.inner) (remaining c.read.new.self.inner) inv.bytes c.in-Ok.n c.read.new.buf c.if-n-eq0.true inv.consumed read.0;
      text = inv.text ++ last.0;
      is_told = subst (λ bs. Breaks tells c.args.pass.now c.args.cutter.now.unfinished bs (inv.text ++ last.0) c.serve_end.new.pass) (append-nil inv.bytes)
          (breaks_after tells c.args.pass.now c.loop.pass c.serve_end.new.pass c.args.cutter.now.unfinished c.loop.cutter.unfinished inv.bytes [] inv.text last.0 inv.fed last.1);
      written = AppendsFront-after (contents c.args.sink.now.inner) (contents c.loop.sink.inner) (contents c.serve_end.new.sink.inner) inv.text last.0 (inv.text ++ last.0) refl inv.written last.2;
      all_read = c.in-Ok.ensures.failures ∙ inv.failures;
      cause = c.serve_end.ensures.failures ∙ (ap (λ r. failures_after_stop r c.loop.sink.failures) e ∙ ap raised inv.unwritten);
    }

pub returns-then-n-eq0-clause-refused : goal.returns-then-n-eq0-clause-refused
returns-then-n-eq0-clause-refused g c = λ why e.
    let remaining = g.R.Read.remaining in
    let contents = g.W.Write.contents in
    let inv = c.loop.invariant in
    let read = c.in-Ok.ensures.bytes in
    let tells = HearsText c.args.self.now in
    let refuses = RefusesText c.args.self.now in
    let last = Stops-refused c.serve_end.result _ _ why c.serve_end.ensures.stopped e in
    record {
      bytes = inv.bytes;
      read = consumes_nothing (remaining c.args.source.now.inner) (remaining c.loop.source.inner) (remaining c.read.new.self.inner) inv.bytes c.in-Ok.n c.read.new.buf c.if-n-eq0.true inv.consumed read.0;
      text = inv.text ++ last.0;
      is_told = subst (λ bs. Meets tells refuses c.args.pass.now c.args.cutter.now.unfinished bs (inv.text ++ last.0) c.serve_end.new.pass why) (append-nil inv.bytes)
          (meets_after tells refuses c.args.pass.now c.loop.pass c.serve_end.new.pass c.args.cutter.now.unfinished c.loop.cutter.unfinished inv.bytes [] inv.text last.0 why inv.fed last.1);
      written = AppendsFront-after (contents c.args.sink.now.inner) (contents c.loop.sink.inner) (contents c.serve_end.new.sink.inner) inv.text last.0 (inv.text ++ last.0) refl inv.written last.2;
      all_read = c.in-Ok.ensures.failures ∙ inv.failures;
      all_written = c.serve_end.ensures.failures ∙ (ap (λ r. failures_after_stop r c.loop.sink.failures) e ∙ inv.unwritten);
    }

pub returns-then-n-eq0-clause-memory : goal.returns-then-n-eq0-clause-memory
returns-then-n-eq0-clause-memory g c = λ e. absurd (Stops-no_memory c.serve_end.result _ _ c.serve_end.ensures.stopped e)

-- ---- where a piece stops

pub returns-in-Err-clause-read : goal.returns-in-Err-clause-read
returns-in-Err-clause-read g c = λ e. absurd (Stops-no_read (Err c.in-Err.stopped) _ _ c.in-Err.ensures.stopped e)

pub returns-in-Err-clause-write : goal.returns-in-Err-clause-write
returns-in-Err-clause-write g c = λ e.
    let remaining = g.R.Read.remaining in
    let contents = g.W.Write.contents in
    let inv = c.loop.invariant in
    let read = c.in-Ok.ensures.bytes in
    let piece = take c.in-Ok.n c.read.new.buf in
    let last = Stops-write (Err c.in-Err.stopped) _ _ c.in-Err.ensures.stopped e in
    record {
      bytes = inv.bytes ++ piece;
      read = Consumes-trans (remaining c.args.source.now.inner) (remaining c.loop.source.inner) (remaining c.read.new.self.inner) inv.bytes piece inv.consumed read.0;
      text = inv.text ++ last.0;
      is_told = breaks_after (HearsText c.args.self.now) c.args.pass.now c.loop.pass c.serve_piece.new.pass c.args.cutter.now.unfinished c.loop.cutter.unfinished inv.bytes piece inv.text last.0 inv.fed last.1;
      written = AppendsFront-after (contents c.args.sink.now.inner) (contents c.loop.sink.inner) (contents c.serve_piece.new.sink.inner) inv.text last.0 (inv.text ++ last.0) refl inv.written last.2;
      all_read = c.in-Ok.ensures.failures ∙ inv.failures;
      cause = c.in-Err.ensures.failures ∙ (ap (λ r. failures_after_stop r c.loop.sink.failures) e ∙ ap raised inv.unwritten);
    }

pub returns-in-Err-clause-refused : goal.returns-in-Err-clause-refused
returns-in-Err-clause-refused g c = λ why e.
    let remaining = g.R.Read.remaining in
    let contents = g.W.Write.contents in
    let inv = c.loop.invariant in
    let read = c.in-Ok.ensures.bytes in
    let piece = take c.in-Ok.n c.read.new.buf in
    let last = Stops-refused (Err c.in-Err.stopped) _ _ why c.in-Err.ensures.stopped e in
    record {
      bytes = inv.bytes ++ piece;
      read = Consumes-trans (remaining c.args.source.now.inner) (remaining c.loop.source.inner) (remaining c.read.new.self.inner) inv.bytes piece inv.consumed read.0;
      text = inv.text ++ last.0;
      is_told = meets_after (HearsText c.args.self.now) (RefusesText c.args.self.now) c.args.pass.now c.loop.pass c.serve_piece.new.pass c.args.cutter.now.unfinished c.loop.cutter.unfinished inv.bytes piece inv.text last.0 why inv.fed last.1;
      written = AppendsFront-after (contents c.args.sink.now.inner) (contents c.loop.sink.inner) (contents c.serve_piece.new.sink.inner) inv.text last.0 (inv.text ++ last.0) refl inv.written last.2;
      all_read = c.in-Ok.ensures.failures ∙ inv.failures;
      all_written = c.in-Err.ensures.failures ∙ (ap (λ r. failures_after_stop r c.loop.sink.failures) e ∙ inv.unwritten);
    }

pub returns-in-Err-clause-memory : goal.returns-in-Err-clause-memory
returns-in-Err-clause-memory g c = λ e. absurd (Stops-no_memory (Err c.in-Err.stopped) _ _ c.in-Err.ensures.stopped e)

-- ---- where a read failed

pub returns-in_default-clause-read : goal.returns-in_default-clause-read
returns-in_default-clause-read g c = λ e.
    let remaining = g.R.Read.remaining in
    let inv = c.loop.invariant in
    record {
      bytes = inv.bytes;
      read = Consumes-kept (remaining c.args.source.now.inner) (remaining c.loop.source.inner) (remaining c.read.new.self.inner) inv.bytes inv.consumed c.in_default.ensures.bytes;
      text = inv.text;
      is_told = (c.loop.cutter.unfinished, inv.fed);
      written = inv.written;
      cause = inl (c.in_default.ensures.failures ∙ ap raised inv.failures);
      all_written = inv.unwritten;
    }

-- ---- where as many reads were made as there may be

pub returns-clause-read : goal.returns-clause-read
returns-clause-read g c = λ e.
    let inv = c.loop.invariant in
    let full : c.loop.counter ≡ 4294967295 = omega arith in
    record {
      bytes = inv.bytes;
      read = inv.consumed;
      text = inv.text;
      is_told = (c.loop.cutter.unfinished, inv.fed);
      written = inv.written;
      cause = inr (inv.reads (omega arith) ∙ ap (λ n. raised_by n c.args.source.now.reads) full);
      all_written = inv.unwritten;
    }
