use Rattle.std.proofs.Common.{sym}
use Rattle.table_changes.proofs.told.tell.Goals as goal

pub returns-in-Ok-Lost-clause-told : goal.returns-in-Ok-Lost-clause-told
returns-in-Ok-Lost-clause-told c = (c.tell_lost.ensures c.args.records.now (sym c.spec.ensures)).is_told
