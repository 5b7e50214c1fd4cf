use Rattle.std.proofs.Common.{◌++◌, ap, ap₂, ◌∙◌}
use Rattle.json.specs.Print.{print}
use Rattle.serde_json.proofs.Texts.{print-outline}
use Rattle.table_reply.specs.Printed.{data_tokens}
use Rattle.command_text.specs.Text.{command_data}
use Rattle.command_text.proofs.write.set_text.Goals as goal

pub returns-clause-all : goal.returns-clause-all
returns-clause-all c =
    let d = command_data c.args.command.now in
    let wrote = c.in_ok-print_command.ensures in
    let before = wrote.0 ∙ (c.new-line.ensures.before ∙ c.clear.ensures.items) in
    let tokens = wrote.1 ∙ ap (λ ts. ts ++ data_tokens d) c.new-line.ensures.tokens in
    c.into_inner.ensures.items ∙ (ap₂ (λ b ts. b ++ print ts) before tokens ∙ print-outline d)
