use Rattle.std.proofs.Common.{◌≡◌, ◌<◌, [], ◌∷◌, ◌++◌, Err, drop, length, List, ℕ, refl, sym, ap, subst, ◌∙◌, append-nil, append_assoc, arith}
use Rattle.std.specs.Option.{option_to_list}
use Rattle.std.specs.Prelude.{Option}
use Rattle.std.proofs.lemmas.Result.{err_from_is_err_and}
use Rattle.table_engine.specs.Devices.{AppendsFront}
use Rattle.table_engine.specs.Lines.{short, added}
use Rattle.table_engine.specs.Outcomes.{failures_after_stop}
use Rattle.table_engine.specs.Stream.{Breaks, Feeds, Meets, Passes}
use Rattle.table_engine.proofs.Devices.{Stops-map, passes_front, passes_nothing, passes_then, passes_written}
use Rattle.table_engine.proofs.Quiet.{IsQuiet, is_newline, line_of_rest, quiet_front, quiet_whole}
use Rattle.shared_tables.specs.Requests.{Asks, HearsSome, HearsUntil}
use Rattle.shared_tables.specs.Serving.{HearsText, RefusesText}
use Rattle.shared_tables.specs.declared.request.Request.{Request}
use Rattle.shared_tables.proofs.Reading.{Served, front_more, reads_line, served_all, served_front, served_none, served_quiet, served_read, served_some, served_until}
use Rattle.shared_tables.proofs.shared.Shared.serve_piece.Goals as goal

pub loop-length-init : goal.loop-length-init
loop-length-init g c = record {
  failures = refl;
  few = subst (λ rs. length rs < 128) (sym c.requires.none) (omega arith);
  done = [];
  split = refl;
  told = [];
  served = subst (λ rs. Served c.args.self.now c.args.pass.now c.args.cutter.now.unfinished [] [] c.args.pass.now rs c.args.cutter.now.unfinished) (sym c.requires.none)
      (served_none c.args.self.now c.args.pass.now c.args.cutter.now.unfinished);
  passes = subst (λ w. Passes (g.W.Write.contents c.args.sink.now.inner) (g.W.Write.contents c.args.sink.now.inner) [] [] w) (sym c.requires.empty)
      (passes_nothing (g.W.Write.contents c.args.sink.now.inner) []);
}

pub loop-length-preserved : goal.loop-length-preserved
loop-length-preserved g c =
    let contents = g.W.Write.contents in
    let shared = c.args.self.now in
    let loop = c.loop-length in
    let inv = loop.invariant in
    let n = c.in-Some.length in
    let rest = loop.rest.now in
    let line = c.split_at.result.0.now in
    let behind = c.split_at-in-Some.result.1.now in
    let found = c.in-Some.ensures in
    let old = c.args.pass.now in
    let before = c.args.cutter.now.unfinished in
    let new = c.serve_line.new in
    let next = new.cutter.unfinished in
    let told = c.in-Ok.ensures.told in
    let quiet : IsQuiet line = subst IsQuiet (sym c.split_at.ensures.front) (quiet_front rest n found) in
    let whole : line ++ 10 ∷ behind ≡ rest = ap (λ xs. xs ++ 10 ∷ behind) c.split_at.ensures.front
    ∙ line_of_rest n rest behind found.0.high (is_newline rest n found) (c.split_at-in-Some.ensures.back ∙ ap (drop 1) c.split_at.ensures.back) in
    let one = reads_line loop.cutter.unfinished next line told.0 quiet told.1 c.in-Ok.ensures.ended in
    let read = served_read shared old loop.pass before loop.cutter.unfinished next inv.done (line ++ 10 ∷ []) inv.told loop.requests (option_to_list told.0) inv.served one in
    record {
      failures = c.in-Ok.ensures.failures ∙ inv.failures;
      few = c.in-Ok.ensures.few;
      done = inv.done ++ (line ++ 10 ∷ []);
      split = append_assoc inv.done (line ++ 10 ∷ []) behind ∙ (ap (λ xs. inv.done ++ xs) (append_assoc line (10 ∷ []) behind ∙ whole) ∙ inv.split);
      told = inv.told ++ told.2;
      served = served_some shared old loop.pass new.pass before next (inv.done ++ (line ++ 10 ∷ [])) inv.told told.2 (loop.requests ++ option_to_list told.0) new.requests read told.3;
      passes = passes_then (contents c.args.sink.now.inner) (contents loop.sink.inner) (contents new.sink.inner) inv.told told.2 loop.out.bytes new.out.bytes inv.passes told.4;
    }

-- A line was read, and not all that waited was carried out.
pub returns-in-Err-clause-stopped : goal.returns-in-Err-clause-stopped
returns-in-Err-clause-stopped g c =
    let contents = g.W.Write.contents in
    let shared = c.args.self.now in
    let tells = HearsText shared in
    let refuses = RefusesText shared in
    let loop = c.loop-length in
    let inv = loop.invariant in
    let n = c.in-Some.length in
    let rest = loop.rest.now in
    let line = c.split_at.result.0.now in
    let behind = drop 1 (drop n rest) in
    let found = c.in-Some.ensures in
    let piece = c.args.piece.now in
    let old = c.args.pass.now in
    let before = c.args.cutter.now.unfinished in
    let begun = added line loop.cutter.unfinished in
    let after = c.serve_line.new.pass in
    let out = loop.out.bytes in
    let start = contents c.args.sink.now.inner in
    let mid = contents loop.sink.inner in
    let new = contents c.serve_line.new.sink.inner in
    let quiet : IsQuiet line = subst IsQuiet (sym c.split_at.ensures.front) (quiet_front rest n found) in
    let whole : line ++ 10 ∷ behind ≡ rest = ap (λ xs. xs ++ 10 ∷ behind) c.split_at.ensures.front ∙ line_of_rest n rest behind found.0.high (is_newline rest n found) refl in
    let done = inv.done ++ (line ++ 10 ∷ []) in
    let split : done ++ behind ≡ piece = append_assoc inv.done (line ++ 10 ∷ []) behind ∙ (ap (λ xs. inv.done ++ xs) (append_assoc line (10 ∷ []) behind ∙ whole) ∙ inv.split) in
    let asked = λ (first : Option Request). loop.requests ++ option_to_list first in
    let read = λ (first : Option Request) (asks : Asks begun first). served_read shared old loop.pass before loop.cutter.unfinished (short []) inv.done (line ++ 10 ∷ []) inv.told loop.requests (option_to_list first) inv.served
    (reads_line loop.cutter.unfinished (short []) line first quiet asks refl) in
    Stops-map (Err c.in-Err.stopped)
    ((first : Option Request) × Asks begun first × (left : List Request) × (text : List ℕ) × HearsSome shared loop.pass (asked first) left text after × AppendsFront mid new (out ++ text))
    ((told : List ℕ) × Breaks tells old before piece told after × AppendsFront start new told)
    (λ why. (first : Option Request) × Asks begun first × (text : List ℕ) × HearsUntil shared loop.pass (asked first) text after why × AppendsFront mid new (out ++ text))
    (λ why. (told : List ℕ) × Meets tells refuses old before piece told after why × AppendsFront start new told)
    (λ u. (
      inv.told ++ u.3,
      served_front shared old after before (short []) done behind piece (inv.told ++ u.3) u.2
          (served_some shared old loop.pass after before (short []) done inv.told u.3 (asked u.0) u.2 (read u.0 u.1) u.4) split,
      front_more start mid new inv.told out u.3 inv.passes u.5,
    ))
    (λ why u. (
      inv.told ++ u.2,
      served_until shared old loop.pass after before (short []) done behind piece inv.told u.2 (asked u.0) why (read u.0 u.1) u.3 split,
      front_more start mid new inv.told out u.2 inv.passes u.4,
    )) c.in-Err.ensures.stopped

pub returns-in-Err-clause-failures : goal.returns-in-Err-clause-failures
returns-in-Err-clause-failures g c = c.in-Err.ensures.failures ∙ ap (failures_after_stop (Err c.in-Err.stopped)) c.loop-length.invariant.failures

-- What waited at the end was not all carried out.
pub returns-in-Err-answer_all-clause-stopped : goal.returns-in-Err-answer_all-clause-stopped
returns-in-Err-answer_all-clause-stopped g c =
    let contents = g.W.Write.contents in
    let shared = c.args.self.now in
    let tells = HearsText shared in
    let refuses = RefusesText shared in
    let loop = c.loop-length in
    let inv = loop.invariant in
    let rest = loop.rest.now in
    let piece = c.args.piece.now in
    let old = c.args.pass.now in
    let before = c.args.cutter.now.unfinished in
    let begun = added rest loop.cutter.unfinished in
    let after = c.answer_all.new.pass in
    let out = loop.out.bytes in
    let start = contents c.args.sink.now.inner in
    let mid = contents loop.sink.inner in
    let new = contents c.answer_all.new.sink.inner in
    let served = served_quiet shared old loop.pass before loop.cutter.unfinished inv.done rest piece inv.told loop.requests inv.served (quiet_whole rest c.in_default.ensures) inv.split in
    Stops-map (Err c.in-Err-answer_all.stopped)
    ((left : List Request) × (text : List ℕ) × HearsSome shared loop.pass loop.requests left text after × AppendsFront mid new (out ++ text))
    ((told : List ℕ) × Breaks tells old before piece told after × AppendsFront start new told)
    (λ why. (text : List ℕ) × HearsUntil shared loop.pass loop.requests text after why × AppendsFront mid new (out ++ text))
    (λ why. (told : List ℕ) × Meets tells refuses old before piece told after why × AppendsFront start new told)
    (λ u. (
      inv.told ++ u.1,
      served_front shared old after before begun piece [] piece (inv.told ++ u.1) u.0
          (served_some shared old loop.pass after before begun piece inv.told u.1 loop.requests u.0 served u.2) (append-nil piece),
      front_more start mid new inv.told out u.1 inv.passes u.3,
    ))
    (λ why u. (
      inv.told ++ u.0,
      served_until shared old loop.pass after before begun piece [] piece inv.told u.0 loop.requests why served u.1 (append-nil piece),
      front_more start mid new inv.told out u.0 inv.passes u.2,
    )) c.in-Err-answer_all.ensures.stopped

-- The answers that waited at the end were not written.
pub returns-in_err-write_out-clause-stopped : goal.returns-in_err-write_out-clause-stopped
returns-in_err-write_out-clause-stopped g c =
    let contents = g.W.Write.contents in
    let shared = c.args.self.now in
    let loop = c.loop-length in
    let inv = loop.invariant in
    let rest = loop.rest.now in
    let piece = c.args.piece.now in
    let old = c.args.pass.now in
    let before = c.args.cutter.now.unfinished in
    let begun = added rest loop.cutter.unfinished in
    let new = c.answer_all.new in
    let told = c.in-Ok-answer_all.ensures.told in
    let start = contents c.args.sink.now.inner in
    let served = served_quiet shared old loop.pass before loop.cutter.unfinished inv.done rest piece inv.told loop.requests inv.served (quiet_whole rest c.in_default.ensures) inv.split in
    let all = served_some shared old loop.pass new.pass before begun piece inv.told told.0 loop.requests [] served (subst (λ rs. HearsSome shared loop.pass loop.requests rs told.0 new.pass) c.in-Ok-answer_all.ensures.none told.1) in
    let passes = passes_then start (contents loop.sink.inner) (contents new.sink.inner) inv.told told.0 loop.out.bytes new.out.bytes inv.passes told.2 in
    let p = err_from_is_err_and c.from_residual.result c.from_residual.ensures.1 in
    rw (p.1, p.2) (
      inv.told ++ told.0,
      served_front shared old new.pass before begun piece [] piece (inv.told ++ told.0) [] all (append-nil piece),
      passes_front start (contents new.sink.inner) (contents c.write_out.new.sink.inner) (inv.told ++ told.0) new.out.bytes passes c.in_err-write_out.ensures.unwritten,
    )

pub returns-clause-served : goal.returns-clause-served
returns-clause-served g c =
    let contents = g.W.Write.contents in
    let shared = c.args.self.now in
    let tells = HearsText shared in
    let loop = c.loop-length in
    let inv = loop.invariant in
    let rest = loop.rest.now in
    let piece = c.args.piece.now in
    let old = c.args.pass.now in
    let before = c.args.cutter.now.unfinished in
    let begun = added rest loop.cutter.unfinished in
    let new = c.answer_all.new in
    let told = c.in-Ok-answer_all.ensures.told in
    let start = contents c.args.sink.now.inner in
    let served = served_quiet shared old loop.pass before loop.cutter.unfinished inv.done rest piece inv.told loop.requests inv.served (quiet_whole rest c.in_default.ensures) inv.split in
    let all = served_some shared old loop.pass new.pass before begun piece inv.told told.0 loop.requests [] served (subst (λ rs. HearsSome shared loop.pass loop.requests rs told.0 new.pass) c.in-Ok-answer_all.ensures.none told.1) in
    let passes = passes_then start (contents loop.sink.inner) (contents new.sink.inner) inv.told told.0 loop.out.bytes new.out.bytes inv.passes told.2 in (
      inv.told ++ told.0,
      subst (λ line. Feeds tells old before piece (inv.told ++ told.0) new.pass line) (sym c.extend.ensures)
          (served_all shared old new.pass before begun piece (inv.told ++ told.0) all),
      passes_written start (contents new.sink.inner) (contents c.write_out.new.sink.inner) (inv.told ++ told.0) new.out.bytes passes c.in_ok-write_out.ensures.written,
    )
