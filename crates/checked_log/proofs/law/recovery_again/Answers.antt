use Rattle.checked_log.proofs.Safe.{opens_again}
use Rattle.checked_log.proofs.law.recovery_again.Goals as goal

pub returns : goal.returns
returns c = opens_again
