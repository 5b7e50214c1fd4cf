use Rattle.std.proofs.Common.{arith}
use Rattle.index_tests.proofs.Told.{told_node}
use Rattle.index_tests.proofs.set.finds_any.Goals as goal

pub is_node-requires-clause-other : goal.is_node-requires-clause-other
is_node-requires-clause-other c = rw c.store-store.ensures (told_node c.args.set.now c.args.n c.requires 0 (omega arith) c.at.result c.at.ensures.list _ c.find_any.result c.find_any.ensures.found)

pub is_node-requires-then-is_node-clause-other : goal.is_node-requires-then-is_node-clause-other
is_node-requires-then-is_node-clause-other c = rw c.store-store.ensures (told_node c.args.set.now c.args.n c.requires 1 (omega arith) c.at-then-is_node.result c.at-then-is_node.ensures.list _ c.find_any-then-is_node.result c.find_any-then-is_node.ensures.found)
