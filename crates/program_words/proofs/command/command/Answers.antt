use Rattle.std.proofs.Common.{ap, ap₂, codes, subst, sym, true, ◌≡◌, ◌∙◌}
use Rattle.std.proofs.lemmas.Result.{IfOk-weaker}
use Rattle.clap.specs.Simple.{app_of_fields}
use Rattle.clap.specs.Words.{App, app_of, new_app, with_subcommand}
use Rattle.program_words.specs.Program.{ShowsTexts, first_word, program}
use Rattle.program_words.proofs.Reading.{shows_texts-program}
use Rattle.program_words.proofs.command.command.Goals as goal

pub returns-clause-words : goal.returns-clause-words
unfolding program
returns-clause-words c =
    let named_is : app_of c.about.result ≡ new_app (codes "table_server") =
    ap app_of_fields c.about.ensures ∙ (ap app_of_fields c.in_ok-bin_name.ensures.0 ∙ c.new.ensures.app) in
    let versioned_is = ap app_of_fields c.version.ensures ∙ ap (λ (a : App). record a { top = record a.top { has_version = true } }) named_is in
    let helped_is = ap app_of_fields c.after_help.ensures ∙ (ap app_of_fields c.override_usage.ensures ∙ versioned_is) in
    let first_is : app_of c.subcommand_required.result ≡ first_word =
    ap app_of_fields c.subcommand_required.ensures
    ∙ (ap (λ f. app_of_fields (record f { subcommand_required = true })) c.disable_help_subcommand.ensures
    ∙ (ap (λ f. app_of_fields (record f { disable_help_subcommand = true; subcommand_required = true })) c.no_binary_name.ensures
    ∙ ap (λ (a : App). record a { top = record a.top { no_binary_name = true; disable_help_subcommand = true; subcommand_required = true } }) helped_is)) in
    let with_run = c.in_ok-subcommand.ensures.shape c.in_ok-run.ensures.local ∙ ap₂ with_subcommand first_is (ap (λ (a : App). a.top) c.in_ok-run.ensures.words) in
    IfOk-weaker c.subcommand-2.result _ _ (λ m h. h.shape c.in_ok-serve.ensures.local ∙ ap₂ with_subcommand with_run (ap (λ (a : App). a.top) c.in_ok-serve.ensures.words)) c.subcommand-2.ensures

pub returns-clause-texts : goal.returns-clause-texts
returns-clause-texts c =
    IfOk-weaker c.subcommand-2.result _ _ (λ m is. subst ShowsTexts (sym is) shows_texts-program) (returns-clause-words c)
