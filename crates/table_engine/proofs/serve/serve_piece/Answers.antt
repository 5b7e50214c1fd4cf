use Rattle.std.proofs.Common.{◌≡◌, inl, [], ◌∷◌, ◌++◌, Err, drop, List, ℕ, refl, sym, ap, subst, ◌∙◌, append-nil, append_assoc}
use Rattle.std.specs.Prelude.{⊤}
use Rattle.std.proofs.lemmas.Result.{err_from_is_err_and}
use Rattle.table_engine.specs.Devices.{AppendsFront}
use Rattle.table_engine.specs.Lines.{added}
use Rattle.table_engine.specs.Outcomes.{failures_after_stop}
use Rattle.table_engine.specs.Stream.{Breaks, Feeds, Meets, Passes, RefusesLine}
use Rattle.table_engine.proofs.Devices.{Stops-map, passes_front, passes_nothing, passes_then, passes_written}
use Rattle.table_engine.proofs.Feeds.{feeds_line, feeds_quiet, feeds_then}
use Rattle.table_engine.proofs.Quiet.{IsQuiet, is_newline, line_of_rest, quiet_front, quiet_whole}
use Rattle.table_engine.proofs.serve.serve_piece.Goals as goal

pub loop-length-init : goal.loop-length-init
loop-length-init g c = record {
  failures = refl;
  done = [];
  split = refl;
  told = [];
  fed = (refl, refl, refl);
  passes = subst (λ w. Passes (g.W.Write.contents c.args.sink.now.inner) (g.W.Write.contents c.args.sink.now.inner) [] [] w) (sym c.requires)
      (passes_nothing (g.W.Write.contents c.args.sink.now.inner) []);
}

pub loop-length-preserved : goal.loop-length-preserved
loop-length-preserved g c =
    let contents = g.W.Write.contents in
    let tells = g.T.Answers.tells c.args.seat.now in
    let loop = c.loop-length in
    let inv = loop.invariant in
    let n = c.in-Some.length in
    let rest = loop.rest.now in
    let line = c.split_at.result.0.now in
    let behind = c.split_at-in-Some.result.1.now in
    let found = c.in-Some.ensures in
    let old = c.args.answers.now in
    let before = c.args.cutter.now.unfinished in
    let new = c.serve_line.new in
    let told = c.in-Ok.ensures.told in
    let quiet : IsQuiet line = subst IsQuiet (sym c.split_at.ensures.front) (quiet_front rest n found) in
    let whole : line ++ 10 ∷ behind ≡ rest = ap (λ xs. xs ++ 10 ∷ behind) c.split_at.ensures.front
    ∙ line_of_rest n rest behind found.0.high (is_newline rest n found) (c.split_at-in-Some.ensures.back ∙ ap (drop 1) c.split_at.ensures.back) in
    let one = feeds_line tells loop.answers new.answers loop.cutter.unfinished new.cutter.unfinished line told.0 quiet told.1 c.in-Ok.ensures.ended in
    record {
      failures = c.in-Ok.ensures.failures ∙ inv.failures;
      done = inv.done ++ (line ++ 10 ∷ []);
      split = append_assoc inv.done (line ++ 10 ∷ []) behind ∙ (ap (λ xs. inv.done ++ xs) (append_assoc line (10 ∷ []) behind ∙ whole) ∙ inv.split);
      told = inv.told ++ told.0;
      fed = feeds_then tells old loop.answers new.answers before loop.cutter.unfinished new.cutter.unfinished inv.done (line ++ 10 ∷ []) inv.told told.0 inv.fed one;
      passes = passes_then (contents c.args.sink.now.inner) (contents loop.sink.inner) (contents new.sink.inner) inv.told told.0 loop.out.bytes new.out.bytes inv.passes told.2;
    }

-- The line was not taken: the lines before it are the part that was served.
pub returns-in-Err-clause-stopped : goal.returns-in-Err-clause-stopped
returns-in-Err-clause-stopped g c =
    let contents = g.W.Write.contents in
    let tells = g.T.Answers.tells c.args.seat.now in
    let refuses = g.T.Answers.refuses c.args.seat.now in
    let loop = c.loop-length in
    let inv = loop.invariant in
    let n = c.in-Some.length in
    let rest = loop.rest.now in
    let line = c.split_at.result.0.now in
    let behind = drop 1 (drop n rest) in
    let found = c.in-Some.ensures in
    let piece = c.args.piece.now in
    let start = c.args.answers.now in
    let before = c.args.cutter.now.unfinished in
    let same = sym c.in-Err.ensures.unchanged in
    let old = contents c.args.sink.now.inner in
    let new = contents c.serve_line.new.sink.inner in
    let after = c.serve_line.new.answers in
    let written = passes_front old (contents loop.sink.inner) new inv.told loop.out.bytes inv.passes c.in-Err.ensures.front in
    let quiet : IsQuiet line = subst IsQuiet (sym c.split_at.ensures.front) (quiet_front rest n found) in
    let whole : line ++ 10 ∷ behind ≡ rest = ap (λ xs. xs ++ 10 ∷ behind) c.split_at.ensures.front ∙ line_of_rest n rest behind found.0.high (is_newline rest n found) refl in
    let begun = added line loop.cutter.unfinished in
    let so_far = subst (λ t. Feeds tells start before (inv.done ++ line) t loop.answers begun) (append-nil inv.told)
    (feeds_then tells start loop.answers loop.answers before loop.cutter.unfinished begun inv.done line inv.told [] inv.fed (feeds_quiet tells loop.answers loop.cutter.unfinished line quiet)) in
    Stops-map (Err c.in-Err.stopped) ⊤ ((told : List ℕ) × Breaks tells start before piece told after × AppendsFront old new told)
    (λ why. RefusesLine refuses loop.answers begun why)
    (λ why. (told : List ℕ) × Meets tells refuses start before piece told after why × AppendsFront old new told)
    (λ u. (inv.told, inl (record { front = inv.done; back = rest; parts = inv.split; fed = (loop.cutter.unfinished, subst (λ s. Feeds tells start before inv.done inv.told s loop.cutter.unfinished) same inv.fed) }), written))
    (λ why met. (
      inv.told,
      record {
        front = inv.done ++ line;
        back = 10 ∷ behind;
        parts = append_assoc inv.done line (10 ∷ behind) ∙ (ap (λ xs. inv.done ++ xs) whole ∙ inv.split);
        ends = refl;
        next = begun;
        fed = subst (λ s. Feeds tells start before (inv.done ++ line) inv.told s begun) same so_far;
        refused = subst (λ s. RefusesLine refuses s begun why) same met;
      },
      written,
    )) c.in-Err.ensures.stopped

pub returns-in-Err-clause-failures : goal.returns-in-Err-clause-failures
returns-in-Err-clause-failures g c = c.in-Err.ensures.failures ∙ ap (failures_after_stop (Err c.in-Err.stopped)) c.loop-length.invariant.failures

-- The answers that waited at the end were not written.
pub returns-in_err-write_out-clause-stopped : goal.returns-in_err-write_out-clause-stopped
returns-in_err-write_out-clause-stopped g c =
    let contents = g.W.Write.contents in
    let loop = c.loop-length in
    let inv = loop.invariant in
    let p = err_from_is_err_and c.from_residual.result c.from_residual.ensures.1 in
    rw (p.1, p.2) (
      inv.told,
      inl (record { front = inv.done; back = loop.rest.now; parts = inv.split; fed = (loop.cutter.unfinished, inv.fed) }),
      passes_front (contents c.args.sink.now.inner) (contents loop.sink.inner) (contents c.write_out.new.sink.inner) inv.told loop.out.bytes inv.passes c.in_err-write_out.ensures.unwritten,
    )

pub returns-clause-served : goal.returns-clause-served
returns-clause-served g c =
    let contents = g.W.Write.contents in
    let tells = g.T.Answers.tells c.args.seat.now in
    let loop = c.loop-length in
    let inv = loop.invariant in
    let rest = loop.rest.now in
    let start = c.args.answers.now in
    let before = c.args.cutter.now.unfinished in
    let begun = added rest loop.cutter.unfinished in
    let all = feeds_then tells start loop.answers loop.answers before loop.cutter.unfinished begun inv.done rest inv.told [] inv.fed
    (feeds_quiet tells loop.answers loop.cutter.unfinished rest (quiet_whole rest c.in_default.ensures)) in
    let told = subst (λ t. Feeds tells start before (inv.done ++ rest) t loop.answers begun) (append-nil inv.told) all in
    let cut = subst (λ line. Feeds tells start before (inv.done ++ rest) inv.told loop.answers line) (sym c.extend.ensures) told in (
      inv.told,
      subst (λ bytes. Feeds tells start before bytes inv.told loop.answers c.extend.new.self.unfinished) inv.split cut,
      passes_written (contents c.args.sink.now.inner) (contents loop.sink.inner) (contents c.write_out.new.sink.inner) inv.told loop.out.bytes inv.passes c.in_ok-write_out.ensures.written,
    )
