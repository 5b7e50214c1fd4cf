use Rattle.std.proofs.Common.{ap, ap₂, codes, ◌≡◌, ◌∙◌}
use Rattle.std.proofs.lemmas.Result.{IfOk-weaker}
use Rattle.clap.specs.Simple.{app_of_fields}
use Rattle.clap.specs.Words.{app_of, new_app, with_rule}
use Rattle.program_words.proofs.command.run_command.Goals as goal

pub returns-clause-words : goal.returns-clause-words
returns-clause-words c =
    let named_is : app_of c.after_help.result ≡ new_app (codes "run") =
    ap app_of_fields c.after_help.ensures ∙ (ap app_of_fields c.about.ensures ∙ c.new.ensures.app) in
    IfOk-weaker c.arg-2.result _ _ (λ m h. h.shape c.option-2.ensures.local
    ∙ ap₂ with_rule (c.in_ok-arg.ensures.shape c.option.ensures.local ∙ ap₂ with_rule named_is c.option.ensures.rule) c.option-2.ensures.rule)
    c.arg-2.ensures
