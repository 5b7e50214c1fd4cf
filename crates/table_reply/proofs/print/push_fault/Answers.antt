use Rattle.std.proofs.Common.{ap, subst, ◌∙◌}
use Rattle.table_reply.specs.Buffer.{AddsWhole}
use Rattle.table_reply.proofs.Glued.{fault_glue, fault_glued}
use Rattle.table_reply.proofs.print.push_fault.Goals as goal

pub returns : goal.returns
returns c =
    subst (AddsWhole c.try_push_all.result c.args.out.now c.try_push_all.new.self) (ap fault_glue c.name.ensures ∙ fault_glued c.args.why) c.try_push_all.ensures
