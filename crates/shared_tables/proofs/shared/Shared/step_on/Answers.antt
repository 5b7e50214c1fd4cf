use Rattle.std.proofs.Common.{◌≡◌, ◌∷◌, ◌++◌, length, get_or, sym, ap, subst, ◌∙◌, arith}
use Rattle.table_cmd.specs.Command.{table_in}
use Rattle.shared_tables.specs.Hears.{SharedData}
use Rattle.shared_tables.specs.Requests.{HearsSome}
use Rattle.shared_tables.specs.declared.request.Request.TheVariants as requests
use Rattle.shared_tables.proofs.Reading.{call_some, call_until, some_then, told_more, until_then}
use Rattle.shared_tables.proofs.Schemas.{named_too}
use Rattle.shared_tables.proofs.shared.Shared.step_on.Goals as goal

pub returns-in-Err-clause-refused : goal.returns-in-Err-clause-refused
returns-in-Err-clause-refused g c =
    call_until c.args.self.now c.args.pass.now c.step.new.pass c.args.first c.args.later.now c.args.out.now.bytes c.step.new.out.bytes c.in-Err.why
    c.in-Err.ensures.refused c.in-Err.ensures.unchanged.0 c.in-Err.ensures.unchanged.1

pub loop-name-init : goal.loop-name-init
loop-name-init g c =
    let told = call_some c.args.self.now c.args.pass.now c.step.new.pass c.args.first c.args.later.now c.args.out.now.bytes c.step.new.out.bytes c.in-Ok.ensures.answered in
    record { entered = c.in-Ok.ensures.entered; fewer = omega arith; text = told.0; told = told.1; some = told.2 }

pub returns-in_default-clause-answered : goal.returns-in_default-clause-answered
returns-in_default-clause-answered g c =
    let inv = c.loop-name.invariant in
    (inv.text, c.has_room.ensures.bytes ∙ inv.told, subst (λ rs. HearsSome c.args.self.now c.args.pass.now (requests.Command c.args.first ∷ c.args.later.now) rs inv.text c.loop-name.pass) (sym c.in_default.ensures.none) inv.some)

pub returns-in_default-clause-fewer : goal.returns-in_default-clause-fewer
returns-in_default-clause-fewer g c =
    let same = ap length c.in_default.ensures.none in
    let fewer = c.loop-name.invariant.fewer in
    omega (arith, same, fewer)

pub step-requires-in-loop-name-clause-named : goal.step-requires-in-loop-name-clause-named
step-requires-in-loop-name-clause-named g c =
    let shape = c.index-tables-place.result in
    let schema : c.args.self.now.schema ≡ c.tables.result.now = ap (λ (d : SharedData). d.schema) (sym c.self.view_is) ∙ sym c.tables.ensures.value in
    named_too c.args.self.now.schema c.args.place shape (table_in c.args.first) (table_in c.in-Some.command) c.requires.named
    (c.index-tables-place.is ∙ ap (λ ts. get_or ts c.args.place shape) (sym schema)) (c.in-Some.ensures.some.1 ∙ c.name-name.ensures.value)

pub step-requires-in-loop-name-clause-entered : goal.step-requires-in-loop-name-clause-entered
step-requires-in-loop-name-clause-entered g c = c.loop-name.invariant.entered

pub loop-name-preserved : goal.loop-name-preserved
loop-name-preserved g c =
    let shared = c.args.self.now in
    let old = c.args.pass.now in
    let inv = c.loop-name.invariant in
    let new = c.step-in-loop-name.new in
    let left = c.pop_for.new.self in
    let popped = c.in-Some.ensures.some.0 in
    let asked = requests.Command c.args.first ∷ c.args.later.now in
    let told = call_some shared c.loop-name.pass new.pass c.in-Some.command left c.has_room.new.out.bytes new.out.bytes c.in-Ok-step.ensures.answered in
    let shorter = ap length popped in
    let fewer = inv.fewer in
    record {
      entered = c.in-Ok-step.ensures.entered;
      fewer = omega (arith, shorter, fewer);
      text = inv.text ++ told.0;
      told = told_more c.args.out.now.bytes inv.text c.has_room.new.out.bytes told.0 new.out.bytes (c.has_room.ensures.bytes ∙ inv.told) told.1;
      some = some_then shared old c.loop-name.pass new.pass asked (requests.Command c.in-Some.command ∷ left) left inv.text told.0
          (subst (λ rs. HearsSome shared old asked rs inv.text c.loop-name.pass) popped inv.some) told.2;
    }

pub returns-in-Err-step-clause-refused : goal.returns-in-Err-step-clause-refused
returns-in-Err-step-clause-refused g c =
    let shared = c.args.self.now in
    let old = c.args.pass.now in
    let inv = c.loop-name.invariant in
    let new = c.step-in-loop-name.new in
    let left = c.pop_for.new.self in
    let asked = requests.Command c.args.first ∷ c.args.later.now in
    let refused = c.in-Err-step.ensures in
    let told = call_until shared c.loop-name.pass new.pass c.in-Some.command left c.has_room.new.out.bytes new.out.bytes c.in-Err-step.why refused.refused refused.unchanged.0 refused.unchanged.1 in (
      inv.text ++ told.0,
      told_more c.args.out.now.bytes inv.text c.has_room.new.out.bytes told.0 new.out.bytes (c.has_room.ensures.bytes ∙ inv.told) told.1,
      until_then shared old c.loop-name.pass new.pass asked (requests.Command c.in-Some.command ∷ left) inv.text told.0 c.in-Err-step.why
          (subst (λ rs. HearsSome shared old asked rs inv.text c.loop-name.pass) c.in-Some.ensures.some.0 inv.some) told.2,
    )

pub returns-in-Err-step-clause-fewer : goal.returns-in-Err-step-clause-fewer
returns-in-Err-step-clause-fewer g c =
    let shorter = ap length c.in-Some.ensures.some.0 in
    let fewer = c.loop-name.invariant.fewer in
    omega (arith, shorter, fewer)

pub returns-clause-answered : goal.returns-clause-answered
returns-clause-answered g c =
    let inv = c.loop-name.invariant in
    (inv.text, c.has_room.ensures.bytes ∙ inv.told, inv.some)

pub returns-clause-fewer : goal.returns-clause-fewer
returns-clause-fewer g c = c.loop-name.invariant.fewer
