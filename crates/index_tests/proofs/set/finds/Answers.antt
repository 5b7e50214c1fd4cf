use Rattle.std.proofs.Common.{arith}
use Rattle.any_index.proofs.SomeNode.{first_has}
use Rattle.index_tests.proofs.Told.{told_node}
use Rattle.index_tests.proofs.set.finds.Goals as goal

pub is_node-requires-clause-other : goal.is_node-requires-clause-other
is_node-requires-clause-other c = rw c.store-store.ensures (told_node c.args.set.now c.args.n c.requires 0 (omega arith) c.at.result c.at.ensures.list _ c.find.result (first_has _ _ c.find.result c.find.ensures))

pub is_node-requires-then-is_node-clause-other : goal.is_node-requires-then-is_node-clause-other
is_node-requires-then-is_node-clause-other c = rw c.store-store.ensures (told_node c.args.set.now c.args.n c.requires 1 (omega arith) c.at-then-is_node.result c.at-then-is_node.ensures.list _ c.find-then-is_node.result (first_has _ _ c.find-then-is_node.result c.find-then-is_node.ensures))
