use Rattle.std.proofs.Common.{length}
use Rattle.node_store.specs.Chain.{IsReached}
use Rattle.node_store.proofs.shelf.Shelf.drop.Given as goal

abbrev pub invariant-loop-n : goal.invariant-loop-n
invariant-loop-n g l = IsReached l.alloc l.newest l.heap.held

abbrev pub decreases-loop-n : goal.decreases-loop-n
decreases-loop-n g l = length l.heap.held
