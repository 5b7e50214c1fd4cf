use Rattle.checked_log.proofs.ChangedLine.{changed_line}
use Rattle.checked_log.proofs.law.changed_line_is_found.Goals as goal

pub returns : goal.returns
returns c = changed_line
