use Rattle.std.proofs.Common.{◌≡◌, length, None}
use Rattle.node_store.specs.ByNode.{column_of}
use Rattle.hash_index.specs.Earliest.{earliest_of}
use Rattle.hash_index.specs.Spelled.{col_of, index_of}
use Rattle.hash_index.specs.Hashed.{IsHashed, side_of, matches}
use Rattle.hash_index.specs.Walks.{rest_of, Ends}
use Rattle.node_store.specs.Store.{age_of}
use Rattle.seq_index.specs.Links.{AreNodesOf}
use Rattle.hash_index.proofs.HashIndex.earliest_from.Given as goal

abbrev pub invariant-loop-at : goal.invariant-loop-at
invariant-loop-at g l = record {
  ends : Ends (column_of l.store) l.self l.at;
  hashed : IsHashed (g.E.Extract.hash_of l.keys (index_of l.self)) l.store (col_of l.self) (rest_of (column_of l.store) l.self l.at);
  nodes : AreNodesOf l.store l.first;
  least : earliest_of (age_of l.store) l.first (matches (side_of (λ a. g.E.Extract.probe_order_of l.keys (index_of l.self) a l.probe) l.store) (rest_of (column_of l.store) l.self l.at))
      ≡ earliest_of (age_of l.store) None (matches (side_of (λ a. g.E.Extract.probe_order_of l.keys (index_of l.self) a l.probe) l.store) (rest_of (column_of l.store) l.self l.fn.at));
}

abbrev pub decreases-loop-at : goal.decreases-loop-at
decreases-loop-at g l = length (rest_of (column_of l.store) l.self l.at)
