use Rattle.node_store.proofs.ByNode.{node_of_column}
use Rattle.ord_tree.proofs.tree.OrdTree.guide_at.Goals as goal

pub is_node-requires-clause-node : goal.is_node-requires-clause-node
is_node-requires-clause-node g c = node_of_column c.args.store.now c.args.self.now.col c.args.n c.requires.node
