use Rattle.std.proofs.Common.{ap, ap₂, codes, rules, true, false, ◌≡◌, ◌∙◌, ◌||◌}
use Rattle.std.proofs.lemmas.Result.{IfOk-weaker}
use Rattle.clap.specs.Simple.{app_of_fields}
use Rattle.clap.specs.Words.{Rule, app_of, new_app, rule_of, with_rule}
use Rattle.clap.specs.declared.builder.arg.Arg.{Arg}
use Rattle.clap.specs.declared.builder.command.Command.TheViews.{out-Command}
use Rattle.program_words.specs.Program.{required_named}
use Rattle.program_words.proofs.command.serve_command.Goals as goal

pub returns-clause-words : goal.returns-clause-words
returns-clause-words c =
    let named_is : app_of c.after_help.result ≡ new_app (codes "serve") =
    ap app_of_fields c.after_help.ensures ∙ (ap app_of_fields c.about.ensures ∙ c.new.ensures.app) in
    let schema_is : rule_of c.required.result ≡ required_named (codes "schema") =
    ap rule_of c.required.ensures ∙ ap (λ (r : Rule). record r { required = true }) c.option.ensures.rule in
    let schema_local : c.required.result.global ≡ false = ap (λ (a : Arg). a.global) c.required.ensures ∙ c.option.ensures.local in
    let listen_is : rule_of c.required-2.result ≡ required_named (codes "listen") =
    ap rule_of c.required-2.ensures ∙ ap (λ (r : Rule). record r { required = true }) c.option-2.ensures.rule in
    let listen_local : c.required-2.result.global ≡ false = ap (λ (a : Arg). a.global) c.required-2.ensures ∙ c.option-2.ensures.local in
    let with_schema = c.in_ok-arg.ensures.shape schema_local ∙ ap₂ with_rule named_is schema_is in
    let with_listen = c.in_ok-arg-2.ensures.shape listen_local ∙ ap₂ with_rule with_schema listen_is in
    let with_workers = c.in_ok-arg-3.ensures.shape c.workers.ensures.local ∙ ap₂ with_rule with_listen c.workers.ensures.rule in
    let with_each = c.in_ok-arg-4.ensures.shape c.each.ensures.local ∙ ap₂ with_rule with_workers c.each.ensures.rule in
    IfOk-weaker c.arg-5.result _ _ (λ m h. h.shape c.option-3.ensures.local ∙ ap₂ with_rule with_each c.option-3.ensures.rule) c.arg-5.ensures

pub returns-clause-local : goal.returns-clause-local
returns-clause-local c =
    let schema_local : c.required.result.global ≡ false = ap (λ (a : Arg). a.global) c.required.ensures ∙ c.option.ensures.local in
    let listen_local : c.required-2.result.global ≡ false = ap (λ (a : Arg). a.global) c.required-2.ensures ∙ c.option-2.ensures.local in
    let none : (out-Command c.after_help.result).has_globals ≡ false = search rules in
    let with_schema = c.in_ok-arg.ensures.globals ∙ ap₂ (λ x y. x || y) none schema_local in
    let with_listen = c.in_ok-arg-2.ensures.globals ∙ ap₂ (λ x y. x || y) with_schema listen_local in
    let with_workers = c.in_ok-arg-3.ensures.globals ∙ ap₂ (λ x y. x || y) with_listen c.workers.ensures.local in
    let with_each = c.in_ok-arg-4.ensures.globals ∙ ap₂ (λ x y. x || y) with_workers c.each.ensures.local in
    IfOk-weaker c.arg-5.result _ _ (λ m h. h.globals ∙ ap₂ (λ x y. x || y) with_each c.option-3.ensures.local) c.arg-5.ensures
