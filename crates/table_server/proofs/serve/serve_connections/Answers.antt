use Rattle.std.proofs.Common.{rules, ◌≡◌, inl, inr, [], option_map, Result, Ok, Err, true, refl, sym, true≢false, append-nil}
use Rattle.std.specs.Prelude.{OnOk, is_ok}
use Rattle.std.proofs.KnownBytes.{Appends-nil}
use Rattle.table_server.specs.Serving.{announcement}
use Rattle.table_server.proofs.Passes.{fresh_count}
use Rattle.table_server.proofs.serve.serve_connections.Goals as goal

where_ok : {T E P : Type 0} (r : Result T E) → is_ok r ≡ true → OnOk r P → P
where_ok (Ok x) ok known = known
where_ok (Err e) ok known = absurd (true≢false (sym ok))

pub returns-in-Err-clause-announces : goal.returns-in-Err-clause-announces
returns-in-Err-clause-announces g c = ([], (announcement, refl), Appends-nil (g.O.Write.contents c.args.output.now.inner))

pub returns-clause-announces : goal.returns-clause-announces
returns-clause-announces g c = (announcement, ([], append-nil announcement), where_ok c.write_all.result c.if-is_err.ensures.negation c.write_all.ensures.written)

-- a write to the output failed
pub returns-then-is_err-clause-ends : goal.returns-then-is_err-clause-ends
returns-then-is_err-clause-ends g c =
    inl (inr (inr (search rules, search rules, (option_map (λ j. record { path = j.path.now; begun = j.begun }) c.in_ok-journal.journal, search rules), refl)))

-- the threads ended
pub returns-clause-ends : goal.returns-clause-ends
returns-clause-ends g c =
    inr (
      c.serve_on-done.result.end,
      record {
        schema = c.in_ok-schema.schema;
        is_schema = search rules;
        there = c.begin.new.files;
        tried = option_map (λ j. record { path = j.path.now; begun = j.begun }) c.in_ok-journal.journal;
        begun = search rules;
        announced = where_ok c.write_all.result c.if-is_err.ensures.negation c.write_all.ensures.written;
        passes = c.serve_on-done.result.passes.items;
        served = record { listener = c.in-Ok.listening; listens = search rules; served = search (rules, fresh_count) };
        kept = search rules;
      },
    )
