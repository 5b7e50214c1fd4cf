use Rattle.checked_log.proofs.Safe.{opens}
use Rattle.checked_log.proofs.law.recovery_opens.Goals as goal

pub returns : goal.returns
returns c = opens
