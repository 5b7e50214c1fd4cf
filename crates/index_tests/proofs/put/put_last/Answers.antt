use Rattle.seq_index.proofs.Laws.{IsSound_from}
use Rattle.index_tests.proofs.put.put_last.Goals as goal

pub returns-then-is_ok-clause-sound : goal.returns-then-is_ok-clause-sound
returns-then-is_ok-clause-sound g c = IsSound_from _ _ _ c.push.ensures.list
