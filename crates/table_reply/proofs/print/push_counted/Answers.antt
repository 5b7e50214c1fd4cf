use Rattle.std.proofs.Common.{ap, subst, ◌∙◌}
use Rattle.table_reply.specs.Buffer.{AddsWhole}
use Rattle.table_reply.proofs.Glued.{counted_glue, counted_glued}
use Rattle.table_reply.proofs.print.push_counted.Goals as goal

pub returns : goal.returns
returns c =
    let e = ap (λ n. counted_glue n c.format-2.result.now) c.format.ensures.text ∙ ap (counted_glue _) c.format-2.ensures.text ∙ counted_glued c.args.at c.args.number in
    subst (AddsWhole c.try_push_all.result c.args.out.now c.try_push_all.new.self) e c.try_push_all.ensures
