use Rattle.std.proofs.Common.{[], ◌∷◌, ◌++◌, refl, subst, ◌∙◌}
use Rattle.std.proofs.lemmas.Result.{err_from_is_err_and}
use Rattle.table_engine.proofs.Devices.{passes_nothing}
use Rattle.shared_tables.specs.Requests.{HearsSome}
use Rattle.shared_tables.proofs.Reading.{front_on, front_passed, passes_told, some_none, some_then, until_then}
use Rattle.shared_tables.proofs.shared.Shared.answer_all.Goals as goal

pub loop-request-init : goal.loop-request-init
loop-request-init g c = record {
  failures = refl;
  text = [];
  some = some_none c.args.self.now c.args.pass.now c.args.requests.now;
  passes = passes_nothing (g.W.Write.contents c.args.sink.now.inner) c.args.out.now.bytes;
}

pub loop-request-preserved : goal.loop-request-preserved
loop-request-preserved g c =
    let contents = g.W.Write.contents in
    let shared = c.args.self.now in
    let loop = c.loop-request in
    let inv = loop.invariant in
    let old = c.args.pass.now in
    let new = c.answer_on.new in
    let asked = c.args.requests.now in
    let popped = c.in-Some.request ∷ c.pop.new.self in
    let room = c.in_ok-make_room.ensures.written in
    let told = c.in-Ok.ensures.answered in
    record {
      failures = c.in_ok-make_room.ensures.failures ∙ inv.failures;
      text = inv.text ++ told.0;
      some = some_then shared old loop.pass new.pass asked popped new.later inv.text told.0
          (subst (λ rs. HearsSome shared old asked rs inv.text loop.pass) c.in-Some.ensures.items inv.some) told.2;
      passes = passes_told (contents c.args.sink.now.inner) (contents loop.sink.inner) (contents c.make_room.new.sink.inner) c.args.out.now.bytes inv.text loop.out.bytes room.0
          c.make_room.new.out.bytes told.0 new.out.bytes inv.passes room.1 room.2 told.1;
    }

-- No room was made.
pub returns-in_err-make_room-clause-stopped : goal.returns-in_err-make_room-clause-stopped
returns-in_err-make_room-clause-stopped g c =
    let contents = g.W.Write.contents in
    let loop = c.loop-request in
    let inv = loop.invariant in
    let popped = c.in-Some.request ∷ c.pop.new.self in
    let p = err_from_is_err_and c.from_residual.result c.from_residual.ensures.1 in
    rw (p.1, p.2) (
      popped,
      inv.text,
      subst (λ rs. HearsSome c.args.self.now c.args.pass.now c.args.requests.now rs inv.text loop.pass) c.in-Some.ensures.items inv.some,
      front_on (contents c.args.sink.now.inner) (contents loop.sink.inner) (contents c.make_room.new.sink.inner) c.args.out.now.bytes inv.text loop.out.bytes inv.passes
          c.in_err-make_room.ensures.unwritten,
    )

pub returns-in-Err-clause-stopped : goal.returns-in-Err-clause-stopped
returns-in-Err-clause-stopped g c =
    let contents = g.W.Write.contents in
    let shared = c.args.self.now in
    let loop = c.loop-request in
    let inv = loop.invariant in
    let old = c.args.pass.now in
    let new = c.answer_on.new in
    let asked = c.args.requests.now in
    let popped = c.in-Some.request ∷ c.pop.new.self in
    let room = c.in_ok-make_room.ensures.written in
    let told = c.in-Err.ensures.refused in
    let start = contents c.args.sink.now.inner in
    let after = contents c.make_room.new.sink.inner in
    let before = c.args.out.now.bytes in
    let passes = passes_told start (contents loop.sink.inner) after before inv.text loop.out.bytes room.0 c.make_room.new.out.bytes told.0 new.out.bytes inv.passes room.1 room.2 told.1 in (
      inv.text ++ told.0,
      until_then shared old loop.pass new.pass asked popped inv.text told.0 c.in-Err.why
          (subst (λ rs. HearsSome shared old asked rs inv.text loop.pass) c.in-Some.ensures.items inv.some) told.2,
      front_passed start after before (inv.text ++ told.0) new.out.bytes passes,
    )

pub returns-clause-told : goal.returns-clause-told
returns-clause-told g c =
    let inv = c.loop-request.invariant in (
      inv.text,
      subst (λ rs. HearsSome c.args.self.now c.args.pass.now c.args.requests.now rs inv.text c.loop-request.pass) c.in_default.ensures.items inv.some,
      inv.passes,
    )
