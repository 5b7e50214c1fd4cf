use Rattle.std.proofs.Common.{◌≡◌, Some}
use Rattle.node_store.specs.declared.Node.{Node}
use Rattle.node_store.specs.Nodes.{Holds}
use Rattle.any_index.specs.At.{list_in}
use Rattle.index_tests.proofs.live.Live.walk.Given as goal

abbrev pub invariant-loop-place : goal.invariant-loop-place
invariant-loop-place l = (n : Node) → l.at ≡ Some n → Holds (list_in l.order) n
