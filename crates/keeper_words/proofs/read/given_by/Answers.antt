use Rattle.std.proofs.Common.{ap, rules, sym, None, codes, option_and_then, option_map, ◌≡◌, ◌∙◌}
use Rattle.clap.specs.Words.{found_of, rows_of}
use Rattle.clap.proofs.WalkLemmas.{first_value-rows, one_text-rows}
use Rattle.program_words.specs.Asked.{number_in}
use Rattle.keeper_words.specs.Asked.{giving_of, is_true}
use Rattle.keeper_words.proofs.Numbers.{given, no_folder, no_idle, no_schema, no_sync, no-word, no_workers, sync-read}
use Rattle.keeper_words.proofs.read.given_by.Goals as goal

pub returns-in_err-get_str-clause-answers : goal.returns-in_err-get_str-clause-answers
returns-in_err-get_str-clause-answers c =
    let found = found_of c.args.options.now in
    let none : c.from_residual.result ≡ None = search rules in
    ap (option_map giving_of) none ∙ no_schema (rows_of found) (sym (c.in_err-get_str.ensures ∙ first_value-rows found (codes "schema")))

pub returns-in_err-get_str-2-clause-answers : goal.returns-in_err-get_str-2-clause-answers
returns-in_err-get_str-2-clause-answers c =
    let found = found_of c.args.options.now in
    let none : c.from_residual-in_err-get_str-2.result ≡ None = search rules in
    ap (option_map giving_of) none
    ∙ no_folder (rows_of found) c.in_ok-get_str.field-0.now (c.in_ok-get_str.ensures ∙ first_value-rows found (codes "schema"))
    (sym (c.in_err-get_str-2.ensures ∙ first_value-rows found (codes "data")))

pub returns-in_err-number-clause-answers : goal.returns-in_err-number-clause-answers
returns-in_err-number-clause-answers c =
    let found = found_of c.args.options.now in
    let none : c.from_residual-in_err-number.result ≡ None = search rules in
    ap (option_map giving_of) none
    ∙ no_workers (rows_of found) c.in_ok-get_str.field-0.now c.in_ok-get_str-2.field-0.now
    (c.in_ok-get_str.ensures ∙ first_value-rows found (codes "schema")) (c.in_ok-get_str-2.ensures ∙ first_value-rows found (codes "data"))
    (sym (c.in_err-number.ensures.number ∙ ap (option_and_then (number_in 1 256)) (one_text-rows found (codes "workers"))))

pub returns-in_err-get_str-3-clause-answers : goal.returns-in_err-get_str-3-clause-answers
returns-in_err-get_str-3-clause-answers c =
    let found = found_of c.args.options.now in
    let none : c.from_residual-in_err-get_str-3.result ≡ None = search rules in
    let absent = sym (c.in_err-get_str-3.ensures ∙ first_value-rows found (codes "sync")) in
    ap (option_map giving_of) none
    ∙ no_sync (rows_of found) c.in_ok-get_str.field-0.now c.in_ok-get_str-2.field-0.now c.in_ok-number.field-0
    (c.in_ok-get_str.ensures ∙ first_value-rows found (codes "schema")) (c.in_ok-get_str-2.ensures ∙ first_value-rows found (codes "data"))
    (c.in_ok-number.ensures.number ∙ ap (option_and_then (number_in 1 256)) (one_text-rows found (codes "workers")))
    (no-word absent)

pub returns-in_err-read-clause-answers : goal.returns-in_err-read-clause-answers
returns-in_err-read-clause-answers c =
    let found = found_of c.args.options.now in
    let none : c.from_residual-in_err-read.result ≡ None = search rules in
    let word = c.in_ok-get_str-3.ensures ∙ first_value-rows found (codes "sync") in
    ap (option_map giving_of) none
    ∙ no_sync (rows_of found) c.in_ok-get_str.field-0.now c.in_ok-get_str-2.field-0.now c.in_ok-number.field-0
    (c.in_ok-get_str.ensures ∙ first_value-rows found (codes "schema")) (c.in_ok-get_str-2.ensures ∙ first_value-rows found (codes "data"))
    (c.in_ok-number.ensures.number ∙ ap (option_and_then (number_in 1 256)) (one_text-rows found (codes "workers")))
    (sym (sync-read _ c.in_ok-get_str-3.field-0.now None word c.in_err-read.ensures))

pub returns-in_err-number-2-clause-answers : goal.returns-in_err-number-2-clause-answers
returns-in_err-number-2-clause-answers c =
    let found = found_of c.args.options.now in
    let none : c.from_residual-in_err-number-2.result ≡ None = search rules in
    let word = c.in_ok-get_str-3.ensures ∙ first_value-rows found (codes "sync") in
    ap (option_map giving_of) none
    ∙ no_idle (rows_of found) c.in_ok-get_str.field-0.now c.in_ok-get_str-2.field-0.now c.in_ok-number.field-0 c.in_ok-read.field-0
    (c.in_ok-get_str.ensures ∙ first_value-rows found (codes "schema")) (c.in_ok-get_str-2.ensures ∙ first_value-rows found (codes "data"))
    (c.in_ok-number.ensures.number ∙ ap (option_and_then (number_in 1 256)) (one_text-rows found (codes "workers")))
    (sync-read _ c.in_ok-get_str-3.field-0.now _ word c.in_ok-read.ensures)
    (sym (c.in_err-number-2.ensures.number ∙ ap (option_and_then (number_in 0 1000000)) (one_text-rows found (codes "idle"))))

pub returns-clause-answers : goal.returns-clause-answers
returns-clause-answers c =
    let found = found_of c.args.options.now in
    let word = c.in_ok-get_str-3.ensures ∙ first_value-rows found (codes "sync") in
    given (rows_of found) c.in_ok-get_str.field-0.now (option_map (λ s. s.now) c.get_str-2.result) c.in_ok-get_str-2.field-0.now c.in_ok-number.field-0 c.in_ok-read.field-0
    c.in_ok-number-2.field-0 c.is_set.result (option_map (λ s. s.now) c.get_str-6.result) (option_map (λ s. s.now) c.get_str-7.result)
    (option_map (λ s. s.now) c.get_str-8.result) (option_map (λ s. s.now) c.get_str-9.result) c.is_set-2.result c.is_set-3.result
    (option_map (λ s. s.now) c.get_str-12.result) (option_map (λ s. s.now) c.get_str-13.result)
    (c.in_ok-get_str.ensures ∙ first_value-rows found (codes "schema")) (c.get_str-2.ensures ∙ first_value-rows found (codes "listen"))
    (c.in_ok-get_str-2.ensures ∙ first_value-rows found (codes "data"))
    (c.in_ok-number.ensures.number ∙ ap (option_and_then (number_in 1 256)) (one_text-rows found (codes "workers")))
    (sync-read _ c.in_ok-get_str-3.field-0.now _ word c.in_ok-read.ensures)
    (c.in_ok-number-2.ensures.number ∙ ap (option_and_then (number_in 0 1000000)) (one_text-rows found (codes "idle")))
    (c.is_set.ensures ∙ ap is_true (c.get_str-5.ensures ∙ first_value-rows found (codes "compact")))
    (c.get_str-6.ensures ∙ first_value-rows found (codes "export")) (c.get_str-7.ensures ∙ first_value-rows found (codes "import"))
    (c.get_str-8.ensures ∙ first_value-rows found (codes "dump")) (c.get_str-9.ensures ∙ first_value-rows found (codes "by"))
    (c.is_set-2.ensures ∙ ap is_true (c.get_str-10.ensures ∙ first_value-rows found (codes "csv")))
    (c.is_set-3.ensures ∙ ap is_true (c.get_str-11.ensures ∙ first_value-rows found (codes "upgrade")))
    (c.get_str-12.ensures ∙ first_value-rows found (codes "alter")) (c.get_str-13.ensures ∙ first_value-rows found (codes "fill"))
