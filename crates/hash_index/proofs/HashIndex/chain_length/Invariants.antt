use Rattle.std.proofs.Common.{◌≡◌, ◌+◌, length}
use Rattle.node_store.specs.ByNode.{column_of}
use Rattle.hash_index.specs.Walks.{rest_of, Ends}
use Rattle.hash_index.proofs.HashIndex.chain_length.Given as goal

abbrev pub invariant-loop-at : goal.invariant-loop-at
invariant-loop-at g l = record {
  ends : Ends (column_of l.store) l.self l.at;
  counted : l.length + length (rest_of (column_of l.store) l.self l.at) ≡ length (rest_of (column_of l.store) l.self l.fn.at);
}

abbrev pub decreases-loop-at : goal.decreases-loop-at
decreases-loop-at g l = length (rest_of (column_of l.store) l.self l.at)
