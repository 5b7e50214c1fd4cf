use Rattle.std.proofs.Common.{◌≡◌, ◌+◌, ◌-◌, ◌≤◌, slice_get}
use Rattle.list_model.specs.Place.{below, count_equal}
use Rattle.ord_tree.specs.Stored.{nodes_of, side_in}
use Rattle.any_index.proofs.seek.run_length.Given as goal

abbrev pub invariant-loop-at : goal.invariant-loop-at
invariant-loop-at g l = record {
  place : l.at ≡ slice_get (nodes_of l.tree l.store) (below (side_in g.E.Extract l.tree l.store l.keys l.probe) (nodes_of l.tree l.store) + l.count);
  few : l.count ≤ count_equal (side_in g.E.Extract l.tree l.store l.keys l.probe) (nodes_of l.tree l.store);
}

abbrev pub decreases-loop-at : goal.decreases-loop-at
decreases-loop-at g l = count_equal (side_in g.E.Extract l.tree l.store l.keys l.probe) (nodes_of l.tree l.store) - l.count
