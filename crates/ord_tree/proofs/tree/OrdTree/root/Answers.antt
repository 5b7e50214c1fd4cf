use Rattle.node_store.specs.ByNode.{column_of}
use Rattle.ord_tree.proofs.Laws.{the_tree}
use Rattle.ord_tree.proofs.tree.OrdTree.root.Goals as goal

pub returns : goal.returns
returns g c = (the_tree (column_of c.args.store.now) c.args.self.now c.requires).root_is
