use Rattle.checked_log.proofs.Safe.{keeps}
use Rattle.checked_log.proofs.law.recovery_keeps.Goals as goal

pub returns : goal.returns
returns c = keeps
