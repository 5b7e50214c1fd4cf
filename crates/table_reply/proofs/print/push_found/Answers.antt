use Rattle.std.proofs.Common.{ap, subst, ◌∙◌}
use Rattle.table_reply.specs.Buffer.{AddsWhole}
use Rattle.table_reply.proofs.Glued.{found_glue, found_glued}
use Rattle.table_reply.proofs.print.push_found.Goals as goal

pub returns : goal.returns
returns c =
    let e = ap (λ n. found_glue n c.as_str.result.now) c.format.ensures.text ∙ ap (found_glue _) (c.as_str.ensures.value ∙ c.handle_or_null-handle.ensures) ∙ found_glued c.args.at c.args.handle in
    subst (AddsWhole c.try_push_all.result c.args.out.now c.try_push_all.new.self) e c.try_push_all.ensures
