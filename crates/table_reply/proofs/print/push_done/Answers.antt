use Rattle.std.proofs.Common.{ap, subst, ◌∙◌}
use Rattle.table_reply.specs.Buffer.{AddsWhole}
use Rattle.table_reply.proofs.Glued.{done_glue, done_glued}
use Rattle.table_reply.proofs.print.push_done.Goals as goal

pub returns : goal.returns
returns c =
    subst (AddsWhole c.try_push_all.result c.args.out.now c.try_push_all.new.self) (ap done_glue c.format.ensures.text ∙ done_glued c.args.at) c.try_push_all.ensures
