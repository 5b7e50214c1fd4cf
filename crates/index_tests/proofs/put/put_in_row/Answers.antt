use Rattle.row_index.proofs.Laws.{IsSound_from}
use Rattle.index_tests.proofs.put.put_in_row.Goals as goal

pub returns-then-col-eq1-clause-sound : goal.returns-then-col-eq1-clause-sound
returns-then-col-eq1-clause-sound g c = IsSound_from _ _ _ c.push.ensures.list

pub returns-else-col-eq1-clause-sound : goal.returns-else-col-eq1-clause-sound
returns-else-col-eq1-clause-sound g c = IsSound_from _ _ _ c.insert_at.ensures.list
