use Rattle.std.proofs.Common.{subst}
use Rattle.table_reply.specs.Buffer.{AddsWhole}
use Rattle.table_reply.proofs.Glued.{erased_glued}
use Rattle.table_reply.proofs.print.push_erased.Goals as goal

pub returns : goal.returns
returns c =
    subst (AddsWhole c.push_blocked.result c.args.out.now c.push_blocked.new.out) (erased_glued c.args.at c.args.index.now c.args.by c.push_blocked.ensures.plain) c.push_blocked.ensures.text
