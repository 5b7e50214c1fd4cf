use Rattle.node_store.proofs.ByNode.{node_of_column}
use Rattle.ord_tree.proofs.steps.is_like.Goals as goal

pub is_node-requires-clause-other : goal.is_node-requires-clause-other
is_node-requires-clause-other g c = λ m e. node_of_column c.args.store.now c.args.col m (c.requires.new m e)

pub is_node-requires-clause-node : goal.is_node-requires-clause-node
is_node-requires-clause-node g c = node_of_column c.args.store.now c.args.col _ c.requires.old
