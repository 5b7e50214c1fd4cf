use Rattle.std.proofs.Common.{◌≡◌, ◌*◌, ◌≤◌, ℕ, sym, ap, subst, ◌∙◌, Option}
use Rattle.node_store.specs.declared.Node.{Node}
use Rattle.node_store.specs.ByNode.{column_of}
use Rattle.ord_tree.specs.Tree.{height, AreNodes, stored_height}
use Rattle.ord_tree.specs.Spelled.{spelled, tree_of}
use Rattle.ord_tree.proofs.Laws.{the_tree}
use Rattle.ord_tree.proofs.TreeLinks.{AreNodes-root, stored_height-is}
use Rattle.ord_tree.proofs.Ways.{height_few, steps_few}
use Rattle.ord_tree.proofs.tree.OrdTree.height.Goals as goal

pub height_of-requires : goal.height_of-requires
height_of-requires g c =
    let s = the_tree _ _ c.requires in
    subst (λ (o : Option Node). AreNodes (column_of c.args.store.now c.args.self.now.col) o) (sym s.root_is) (AreNodes-root g.T.Tally.of _ _ _ s.hangs)

pub returns : goal.returns
returns g c =
    let cs = column_of c.args.store.now in
    let s = the_tree _ _ c.requires in
    let exact : c.height_of.result ≡ height (tree_of cs c.args.self.now) =
    c.height_of.ensures ∙ (ap (λ (o : Option Node). stored_height (cs c.args.self.now.col) o) s.root_is ∙ stored_height-is g.T.Tally.of _ _ _ s.hangs) in
    record {
      exact = exact;
      low = λ k few. subst (λ (n : ℕ). n ≤ 2 * k) (sym exact) (height_few cs c.args.self.now (spelled cs c.args.self.now) k c.requires few);
      near = λ k few. steps_few cs c.args.self.now (spelled cs c.args.self.now) k c.requires few;
    }
