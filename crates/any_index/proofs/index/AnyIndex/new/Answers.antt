use Rattle.std.proofs.Common.{ap}
use Rattle.seq_index.proofs.Laws as seq
use Rattle.row_index.proofs.Laws as row
use Rattle.ord_tree.proofs.Laws as ord
use Rattle.hash_index.proofs.Laws as hash
use Rattle.any_index.specs.Spelled.{by_age}
use Rattle.any_index.proofs.index.AnyIndex.new.Goals as goal

pub returns-in-Sequenced-clause-sound : goal.returns-in-Sequenced-clause-sound
returns-in-Sequenced-clause-sound c = λ cs. seq.IsSound_from cs.links _ _ (c.new.ensures.empty cs.links)

pub returns-in-Sequenced-clause-empty : goal.returns-in-Sequenced-clause-empty
returns-in-Sequenced-clause-empty c = λ cs. seq.spelled_is cs.links _ _ (c.new.ensures.empty cs.links)

pub returns-in-Random-clause-sound : goal.returns-in-Random-clause-sound
returns-in-Random-clause-sound c = λ cs. row.IsSound_from cs.links _ _ (c.new-in-Random.ensures.empty cs.links)

pub returns-in-Random-clause-empty : goal.returns-in-Random-clause-empty
returns-in-Random-clause-empty c = λ cs. row.spelled_is cs.links _ _ (c.new-in-Random.ensures.empty cs.links)

pub returns-in-Ordered-clause-sound : goal.returns-in-Ordered-clause-sound
returns-in-Ordered-clause-sound c = λ cs. ord.IsSound_from cs.links _ _ (c.new-in-Ordered.ensures.empty cs.links)

pub returns-in-Ordered-clause-empty : goal.returns-in-Ordered-clause-empty
returns-in-Ordered-clause-empty c = λ cs. ord.spelled_is cs.links _ _ (c.new-in-Ordered.ensures.empty cs.links)

pub returns-in-Ranked-clause-sound : goal.returns-in-Ranked-clause-sound
returns-in-Ranked-clause-sound c = λ cs. ord.IsSound_from cs.links _ _ (c.new-in-Ranked.ensures.empty cs.links)

pub returns-in-Ranked-clause-empty : goal.returns-in-Ranked-clause-empty
returns-in-Ranked-clause-empty c = λ cs. ord.spelled_is cs.links _ _ (c.new-in-Ranked.ensures.empty cs.links)

pub returns-in-Hashed-clause-sound : goal.returns-in-Hashed-clause-sound
returns-in-Hashed-clause-sound c = λ cs. hash.IsSound_from cs.links _ _ (c.new-in-Hashed.ensures.empty cs.ages cs.links)

pub returns-in-Hashed-clause-empty : goal.returns-in-Hashed-clause-empty
returns-in-Hashed-clause-empty c = λ cs. ap (by_age cs.ages) (hash.spelled_is cs.links _ _ (c.new-in-Hashed.ensures.empty cs.ages cs.links))
