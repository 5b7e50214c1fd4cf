use Rattle.std.proofs.Common.{ap, ap₂, codes, subst, sym, true, ◌≡◌, ◌∙◌}
use Rattle.std.proofs.lemmas.Result.{IfOk-weaker}
use Rattle.clap.specs.Simple.{app_of_fields}
use Rattle.clap.specs.Words.{App, app_of, new_app, with_rule}
use Rattle.keeper_words.specs.Keeper.{ShowsTexts, keeper, no_option}
use Rattle.keeper_words.proofs.Reading.{shows_texts-keeper}
use Rattle.keeper_words.proofs.command.command.Goals as goal

pub returns-clause-words : goal.returns-clause-words
unfolding keeper
returns-clause-words c =
    let named_is : app_of c.about.result ≡ new_app (codes "table_keeper") =
    ap app_of_fields c.about.ensures ∙ (ap app_of_fields c.in_ok-bin_name.ensures.0 ∙ c.new.ensures.app) in
    let versioned_is = ap app_of_fields c.version.ensures ∙ ap (λ (a : App). record a { top = record a.top { has_version = true } }) named_is in
    let helped_is = ap app_of_fields c.after_help.ensures ∙ (ap app_of_fields c.override_usage.ensures ∙ versioned_is) in
    let first_is : app_of c.no_binary_name.result ≡ no_option =
    ap app_of_fields c.no_binary_name.ensures ∙ ap (λ (a : App). record a { top = record a.top { no_binary_name = true } }) helped_is in
    let with_schema = c.in_ok-arg.ensures.shape c.required.ensures.local ∙ ap₂ with_rule first_is c.required.ensures.rule in
    let with_listen = c.in_ok-arg-2.ensures.shape c.listen.ensures.local ∙ ap₂ with_rule with_schema c.listen.ensures.rule in
    let with_folder = c.in_ok-arg-3.ensures.shape c.required-2.ensures.local ∙ ap₂ with_rule with_listen c.required-2.ensures.rule in
    let with_workers = c.in_ok-arg-4.ensures.shape c.workers.ensures.local ∙ ap₂ with_rule with_folder c.workers.ensures.rule in
    let with_sync = c.in_ok-arg-5.ensures.shape c.sync.ensures.local ∙ ap₂ with_rule with_workers c.sync.ensures.rule in
    let with_idle = c.in_ok-arg-6.ensures.shape c.idle.ensures.local ∙ ap₂ with_rule with_sync c.idle.ensures.rule in
    let with_compact = c.in_ok-arg-7.ensures.shape c.flag.ensures.local ∙ ap₂ with_rule with_idle c.flag.ensures.rule in
    let with_export = c.in_ok-arg-8.ensures.shape c.option.ensures.local ∙ ap₂ with_rule with_compact c.option.ensures.rule in
    let with_import = c.in_ok-arg-9.ensures.shape c.option-2.ensures.local ∙ ap₂ with_rule with_export c.option-2.ensures.rule in
    let with_dump = c.in_ok-arg-10.ensures.shape c.option-3.ensures.local ∙ ap₂ with_rule with_import c.option-3.ensures.rule in
    let with_by = c.in_ok-arg-11.ensures.shape c.option-4.ensures.local ∙ ap₂ with_rule with_dump c.option-4.ensures.rule in
    let with_csv = c.in_ok-arg-12.ensures.shape c.flag-2.ensures.local ∙ ap₂ with_rule with_by c.flag-2.ensures.rule in
    let with_upgrade = c.in_ok-arg-13.ensures.shape c.flag-3.ensures.local ∙ ap₂ with_rule with_csv c.flag-3.ensures.rule in
    let with_alter = c.in_ok-arg-14.ensures.shape c.option-5.ensures.local ∙ ap₂ with_rule with_upgrade c.option-5.ensures.rule in
    IfOk-weaker c.arg-15.result _ _ (λ m h. h.shape c.option-6.ensures.local ∙ ap₂ with_rule with_alter c.option-6.ensures.rule) c.arg-15.ensures

pub returns-clause-texts : goal.returns-clause-texts
returns-clause-texts c =
    IfOk-weaker c.arg-15.result _ _ (λ m is. subst ShowsTexts (sym is) shows_texts-keeper) (returns-clause-words c)
