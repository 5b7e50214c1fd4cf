use Rattle.checked_disk.proofs.Opening.{opened, safe_start}
use Rattle.checked_disk.proofs.law.what_stands_opens.Goals as goal

pub returns-clause-opens : goal.returns-clause-opens
returns-clause-opens c = opened

pub returns-clause-start : goal.returns-clause-start
returns-clause-start c = safe_start
