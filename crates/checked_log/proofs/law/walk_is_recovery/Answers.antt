use Rattle.std.proofs.Common.{refl, arith}
use Rattle.checked_log.specs.Recover.{walk_from}
use Rattle.checked_log.proofs.Walked.{judged_whole, lines_room}
use Rattle.checked_log.proofs.law.walk_is_recovery.Goals as goal

pub returns-clause-answer : goal.returns-clause-answer
returns-clause-answer c = λ base mark bytes. judged_whole base mark bytes _ refl

pub returns-clause-room : goal.returns-clause-room
returns-clause-room c = λ base mark lines. let room = lines_room mark lines (walk_from base mark) in omega arith
