use Rattle.std.proofs.Common.{None, sym, ◌∙◌}
use Rattle.node_store.specs.ByNode.{column_of}
use Rattle.ord_tree.specs.Tree.{nodes}
use Rattle.ord_tree.specs.Spelled.{tree_of}
use Rattle.ord_tree.proofs.Laws.{the_tree}
use Rattle.ord_tree.proofs.NodeWalks.{last_is}
use Rattle.ord_tree.proofs.tree.OrdTree.last.Goals as goal

pub returns : goal.returns
returns g c =
    let s = the_tree _ _ c.requires in
    c.last_of.ensures.last _ (record { parent = None; hangs = s.hangs; root = s.root_is }) ∙ sym (last_is (nodes (tree_of (column_of c.args.store.now) c.args.self.now)))
