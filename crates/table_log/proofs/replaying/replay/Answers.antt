use Rattle.std.proofs.Common.{◌∙◌}
use Rattle.table_log.proofs.Feeding.{replayed_by}
use Rattle.table_log.proofs.replaying.replay.Goals as goal

pub returns-in-Ok-clause-replayed : goal.returns-in-Ok-clause-replayed
returns-in-Ok-clause-replayed g c = λ bytes known.
    replayed_by c.args.start bytes c.in-Ok.loader c.len.result (c.in-Ok.ensures.loaded bytes known) (c.len.ensures ∙ c.in-Ok.loader.line.ok.0)
