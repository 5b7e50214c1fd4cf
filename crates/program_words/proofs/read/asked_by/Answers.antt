use Rattle.std.proofs.Common.{subst, sym, codes, Option, ◌∙◌}
use Rattle.clap.specs.Words.{found_of, rows_of}
use Rattle.clap.proofs.WalkLemmas.{first_value-rows}
use Rattle.program_words.specs.Asked.{AnswersFor, Asking}
use Rattle.program_words.proofs.Reading.{asked-run, asked-serve}
use Rattle.program_words.proofs.read.asked_by.Goals as goal

pub returns-clause-answers : goal.returns-clause-answers
returns-clause-answers c =
    let rows = rows_of (found_of c.in-Some.options.now) in
    subst (λ (asking : Option Asking). AnswersFor asking c.serve_by.result)
    (sym (asked-serve c.args.matches.now c.in-Some.name.now rows _ _ c.in-Some.ensures.name c.in-Some.ensures.rows c.eq.ensures c.if-eq.false c.ne.ensures c.if-ne.false))
    c.serve_by.ensures.answers

pub returns-then-eq-clause-answers : goal.returns-then-eq-clause-answers
returns-then-eq-clause-answers c =
    let found = found_of c.in-Some.options.now in
    sym (asked-run c.args.matches.now c.in-Some.name.now (rows_of found) _ _ _ c.in-Some.ensures.name c.in-Some.ensures.rows c.eq.ensures c.if-eq.true
    (c.get_str.ensures ∙ first_value-rows found (codes "schema")) (c.get_str-then-eq.ensures ∙ first_value-rows found (codes "commands")))
