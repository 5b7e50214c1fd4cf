use Rattle.seq_index.proofs.Laws as seq
use Rattle.row_index.proofs.Laws as row
use Rattle.any_index.proofs.index.AnyIndex.move_to.Goals as goal

pub returns-in-Sequenced-clause-sound : goal.returns-in-Sequenced-clause-sound
returns-in-Sequenced-clause-sound g c = seq.IsSound_from _ _ _ c.move_to.ensures.chain.list

pub returns-in-Sequenced-clause-list : goal.returns-in-Sequenced-clause-list
returns-in-Sequenced-clause-list g c = rw c.in-Sequenced.is (seq.spelled_is _ _ _ c.move_to.ensures.chain.list)

pub returns-in-Random-clause-sound : goal.returns-in-Random-clause-sound
returns-in-Random-clause-sound g c = row.IsSound_from _ _ _ c.move_to-in-Random.ensures.row.list

pub returns-in-Random-clause-list : goal.returns-in-Random-clause-list
returns-in-Random-clause-list g c = rw c.in-Random.is (row.spelled_is _ _ _ c.move_to-in-Random.ensures.row.list)
