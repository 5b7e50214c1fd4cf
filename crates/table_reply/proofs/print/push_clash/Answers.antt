use Rattle.std.proofs.Common.{ap₂, decimal, subst, ◌∙◌}
use Rattle.table_reply.specs.Buffer.{AddsWhole}
use Rattle.table_reply.proofs.Glued.{clash_glue, clash_glued}
use Rattle.table_reply.proofs.print.push_clash.Goals as goal

pub returns : goal.returns
returns c =
    let index = c.args.index.now in
    let texts = ap₂ (λ at name. clash_glue at name c.as_str-2.result.now c.as_str-3.result.now) c.format.ensures.text c.as_str.ensures.text
    ∙ ap₂ (clash_glue (decimal c.args.at) index) (c.as_str-2.ensures.value ∙ c.handle_text-first.ensures) (c.as_str-3.ensures.value ∙ c.handle_text-second.ensures) in
    subst (AddsWhole c.try_push_all.result c.args.out.now c.try_push_all.new.self) (texts ∙ clash_glued c.args.at index c.args.first c.args.second c.as_str.ensures.plain) c.try_push_all.ensures
