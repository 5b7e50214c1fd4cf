use Rattle.checked_log.proofs.Safe.{served_append, served_crash, served_mark, served_start, served_sync}
use Rattle.checked_log.proofs.law.serving_keeps.Goals as goal

pub returns-clause-append : goal.returns-clause-append
returns-clause-append c = served_append

pub returns-clause-sync : goal.returns-clause-sync
returns-clause-sync c = served_sync

pub returns-clause-mark : goal.returns-clause-mark
returns-clause-mark c = served_mark

pub returns-clause-start : goal.returns-clause-start
returns-clause-start c = served_start

pub returns-clause-crash : goal.returns-clause-crash
returns-clause-crash c = served_crash
