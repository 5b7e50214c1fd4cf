use Rattle.std.proofs.Common.{◌≡◌, ◌≤◌, ◌-◌, None, take, drop}
use Rattle.node_store.specs.Nodes.{first_or, last_or}
use Rattle.seq_index.specs.Spelled.{spelled}
use Rattle.seq_index.proofs.SeqIndex.ends_from_front.Given as goal
use Rattle.node_store.specs.ByNode.{column_of}

abbrev pub invariant-loop-steps : goal.invariant-loop-steps
invariant-loop-steps g l = record {
  within : l.steps ≤ l.place;
  before : l.before ≡ last_or (take l.steps (spelled (column_of l.store) l.self)) None;
  after : l.after ≡ first_or (drop l.steps (spelled (column_of l.store) l.self)) None;
}

abbrev pub decreases-loop-steps : goal.decreases-loop-steps
decreases-loop-steps g l = l.place - l.steps
