use Rattle.std.proofs.Common.{◌≡◌, ◌≤◌, ◌-◌, None, take, drop, length}
use Rattle.node_store.specs.Nodes.{first_or, last_or}
use Rattle.node_store.specs.ByNode.{column_of}
use Rattle.seq_index.specs.Spelled.{spelled}
use Rattle.seq_index.proofs.SeqIndex.ends_from_back.Given as goal

abbrev pub invariant-loop-at : goal.invariant-loop-at
invariant-loop-at g l = record {
  from : l.place ≤ l.at;
  within : l.at ≤ length (spelled (column_of l.store) l.self);
  before : l.before ≡ last_or (take l.at (spelled (column_of l.store) l.self)) None;
  after : l.after ≡ first_or (drop l.at (spelled (column_of l.store) l.self)) None;
}

abbrev pub decreases-loop-at : goal.decreases-loop-at
decreases-loop-at g l = l.at - l.place
