use Rattle.std.proofs.Common.{◌≡◌, Some}
use Rattle.node_store.specs.declared.Node.{Node}
use Rattle.node_store.specs.Nodes.{Holds}
use Rattle.node_store.specs.ByNode.{column_of}
use Rattle.index_tests.specs.Kinds.{listed}
use Rattle.index_tests.proofs.every.ages.Given as goal

abbrev pub invariant-loop : goal.invariant-loop
invariant-loop g l = (n : Node) → l.at ≡ Some n → Holds (listed (column_of l.store) l.index) n
