use Rattle.std.proofs.Common.{Some}
use Rattle.node_store.specs.ByNode.{column_of}
use Rattle.hash_index.specs.Walks.{rest_of}
use Rattle.hash_index.proofs.Rising.{Walked}
use Rattle.node_store.specs.Store.{age_of}
use Rattle.hash_index.proofs.HashIndex.place_near.Given as goal

abbrev pub invariant-loop-at : goal.invariant-loop-at
invariant-loop-at g l = Walked (age_of l.fn.store) (rest_of (column_of l.fn.store) l.fn.self (Some l.fn.first)) l.at l.top l.fn.n

abbrev pub decreases-loop-at : goal.decreases-loop-at
decreases-loop-at g l = l.steps
