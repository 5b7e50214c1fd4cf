use Rattle.std.proofs.Common.{arith}
use Rattle.node_store.proofs.ByNode.{node_in_column}
use Rattle.index_tests.proofs.store.has_in_last.Goals as goal

pub link-requires : goal.link-requires
link-requires c = node_in_column c.args.store.now c.loop-col.col c.args.n (omega (arith, c.requires.column)) c.requires.node

pub link-requires-2 : goal.link-requires-2
link-requires-2 c = node_in_column c.args.store.now c.args.last c.args.n c.requires.column c.requires.node
