use Rattle.std.proofs.Common.{◌≡◌, [], ◌++◌, Err, List, ℕ, ap, subst, ◌∙◌}
use Rattle.std.specs.Option.{option_to_list}
use Rattle.std.proofs.lemmas.Result.{err_from_is_err_and}
use Rattle.table_engine.specs.Devices.{AppendsFront}
use Rattle.table_engine.specs.Stream.{Breaks, Meets, Passes}
use Rattle.table_engine.proofs.Devices.{Stops-map, passes_front, passes_written}
use Rattle.shared_tables.specs.Requests.{HearsSome, HearsUntil}
use Rattle.shared_tables.specs.Serving.{HearsText, RefusesText}
use Rattle.shared_tables.specs.declared.request.Request.{Request}
use Rattle.shared_tables.proofs.Reading.{all_of_some, end_breaks, end_meets, end_tells}
use Rattle.shared_tables.proofs.shared.Shared.serve_end.Goals as goal

-- What waited was not all carried out.
pub returns-in-Err-clause-stopped : goal.returns-in-Err-clause-stopped
returns-in-Err-clause-stopped g c =
    let contents = g.W.Write.contents in
    let shared = c.args.self.now in
    let old = c.args.pass.now in
    let line = c.args.cutter.now.unfinished in
    let asked = c.end_line.ensures.asks.0 in
    let asks = c.end_line.ensures.asks.1 in
    let after = c.answer_all.new.pass in
    let out = c.args.out.now.bytes in
    let start = contents c.args.sink.now.inner in
    let new = contents c.answer_all.new.sink.inner in
    let waits : c.end_line.new.self ≡ option_to_list asked = c.end_line.ensures.asks.2 ∙ ap (λ rs. rs ++ option_to_list asked) c.requires.none in
    Stops-map (Err c.in-Err.stopped)
    ((left : List Request) × (text : List ℕ) × HearsSome shared old c.end_line.new.self left text after × AppendsFront start new (out ++ text))
    ((told : List ℕ) × Breaks (HearsText shared) old line [] told after × AppendsFront start new told)
    (λ why. (text : List ℕ) × HearsUntil shared old c.end_line.new.self text after why × AppendsFront start new (out ++ text))
    (λ why. (told : List ℕ) × Meets (HearsText shared) (RefusesText shared) old line [] told after why × AppendsFront start new told)
    (λ u. (
      u.1,
      end_breaks shared old after line asked u.0 u.1 asks (subst (λ rs. HearsSome shared old rs u.0 u.1 after) waits u.2),
      subst (λ w. AppendsFront start new (w ++ u.1)) c.requires.empty u.3,
    ))
    (λ why u. (
      u.0,
      end_meets shared old after line asked u.0 why asks (subst (λ rs. HearsUntil shared old rs u.0 after why) waits u.1),
      subst (λ w. AppendsFront start new (w ++ u.0)) c.requires.empty u.2,
    )) c.in-Err.ensures.stopped

-- The answer was not written.
pub returns-in_err-write_out-clause-stopped : goal.returns-in_err-write_out-clause-stopped
returns-in_err-write_out-clause-stopped g c =
    let contents = g.W.Write.contents in
    let shared = c.args.self.now in
    let old = c.args.pass.now in
    let asked = c.end_line.ensures.asks.0 in
    let new = c.answer_all.new in
    let told = c.in-Ok.ensures.told in
    let start = contents c.args.sink.now.inner in
    let mid = contents new.sink.inner in
    let waits : c.end_line.new.self ≡ option_to_list asked = c.end_line.ensures.asks.2 ∙ ap (λ rs. rs ++ option_to_list asked) c.requires.none in
    let some = subst (λ rs. HearsSome shared old rs new.requests told.0 new.pass) waits told.1 in
    let passes = subst (λ w. Passes start mid w told.0 new.out.bytes) c.requires.empty told.2 in
    let p = err_from_is_err_and c.from_residual.result c.from_residual.ensures.1 in
    rw (p.1, p.2) (
      told.0,
      end_breaks shared old new.pass c.args.cutter.now.unfinished asked new.requests told.0 c.end_line.ensures.asks.1 some,
      passes_front start mid (contents c.write_out.new.sink.inner) told.0 new.out.bytes passes c.in_err-write_out.ensures.unwritten,
    )

pub returns-clause-served : goal.returns-clause-served
returns-clause-served g c =
    let contents = g.W.Write.contents in
    let shared = c.args.self.now in
    let old = c.args.pass.now in
    let asked = c.end_line.ensures.asks.0 in
    let new = c.answer_all.new in
    let told = c.in-Ok.ensures.told in
    let start = contents c.args.sink.now.inner in
    let mid = contents new.sink.inner in
    let waits : c.end_line.new.self ≡ option_to_list asked = c.end_line.ensures.asks.2 ∙ ap (λ rs. rs ++ option_to_list asked) c.requires.none in
    let some = subst (λ rs. HearsSome shared old rs [] told.0 new.pass) waits (subst (λ rs. HearsSome shared old c.end_line.new.self rs told.0 new.pass) c.in-Ok.ensures.none told.1) in
    let passes = subst (λ w. Passes start mid w told.0 new.out.bytes) c.requires.empty told.2 in (
      told.0,
      end_tells shared old new.pass c.args.cutter.now.unfinished asked told.0 c.end_line.ensures.asks.1 (all_of_some shared old new.pass (option_to_list asked) told.0 some),
      passes_written start mid (contents c.write_out.new.sink.inner) told.0 new.out.bytes passes c.in_ok-write_out.ensures.written,
    )
