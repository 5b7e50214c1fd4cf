use Rattle.std.proofs.Common.{[], subst}
use Rattle.std.proofs.lemmas.Result.{on_ok_weaker}
use Rattle.table_engine.proofs.Devices.{passes_nothing}
use Rattle.shared_tables.specs.Requests.{HearsSome}
use Rattle.shared_tables.proofs.Reading.{some_none}
use Rattle.shared_tables.proofs.shared.Shared.serve_line.Goals as goal

pub returns-then-is_full-clause-told : goal.returns-then-is_full-clause-told
returns-then-is_full-clause-told g c =
    let shared = c.args.self.now in
    let old = c.args.pass.now in
    let new = c.answer_all.new in
    on_ok_weaker c.answer_all.result (λ told. (
      c.take_line.ensures.asks.0,
      c.take_line.ensures.asks.1,
      told.0,
      subst (λ rs. HearsSome shared old rs new.requests told.0 new.pass) c.take_line.ensures.asks.2 told.1,
      told.2,
    )) c.answer_all.ensures.told

pub returns-clause-told : goal.returns-clause-told
returns-clause-told g c =
    let shared = c.args.self.now in
    let old = c.args.pass.now in (
      c.take_line.ensures.asks.0,
      c.take_line.ensures.asks.1,
      [],
      subst (λ rs. HearsSome shared old rs c.take_line.new.self [] old) c.take_line.ensures.asks.2 (some_none shared old c.take_line.new.self),
      passes_nothing (g.W.Write.contents c.args.sink.now.inner) c.args.out.now.bytes,
    )
