use Rattle.std.proofs.Common.{ap, ◌∙◌}
use Rattle.std.specs.Prelude.{Some}
use Rattle.clap.specs.Words.{Rule, rule_of}
use Rattle.keeper_words.proofs.command.option.Goals as goal

pub returns-clause-rule : goal.returns-clause-rule
returns-clause-rule c =
    ap rule_of c.help.ensures ∙ (ap rule_of c.value_name.ensures ∙ (ap (λ a. record (rule_of a) { value_names = 1 }) c.long.ensures
    ∙ ap (λ (r : Rule). record r { long = Some c.args.name.now; value_names = 1 }) c.new.ensures.rule))
