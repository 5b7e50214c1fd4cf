use Rattle.std.proofs.Common.{ap, subst, ◌∙◌}
use Rattle.table_reply.specs.Buffer.{AddsWhole}
use Rattle.table_reply.proofs.Glued.{after_glue, after_glued}
use Rattle.table_reply.proofs.print.push_after.Goals as goal

pub returns : goal.returns
returns c =
    let e = ap (λ n. after_glue n c.as_str.result.now) c.format.ensures.text ∙ ap (after_glue _) (c.as_str.ensures.value ∙ c.handle_or_null-next.ensures) ∙ after_glued c.args.at c.args.next in
    subst (AddsWhole c.try_push_all.result c.args.out.now c.try_push_all.new.self) e c.try_push_all.ensures
