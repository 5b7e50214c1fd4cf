use Rattle.table_log.proofs.Replays.{crash}
use Rattle.table_log.proofs.law.crash_keeps_synced.Goals as goal

pub returns : goal.returns
returns c = crash
