use Rattle.std.proofs.Common.{ap, sym, ◌∙◌}
use Rattle.ord_tree.proofs.Removing.{whole_node, spliced, spliced_replaced, without, one_child, only}
use Rattle.ord_tree.specs.Tree.{Fork, root}
use Rattle.ord_tree.proofs.removal.splice.Goals as goal
use Rattle.node_store.specs.ByNode.{column_of}

pub link-link-requires : goal.link-link-requires
link-link-requires g c = whole_node g.T.Tally.of _ _ c.requires.whole.tree c.requires.whole.is

pub rise-requires-clause-old : goal.rise-requires-clause-old
rise-requires-clause-old g c = whole_node g.T.Tally.of _ _ c.requires.whole.tree c.requires.whole.is

pub rise-requires-clause-replaced : goal.rise-requires-clause-replaced
rise-requires-clause-replaced g c =
    let one = one_child (column_of c.args.store.now c.args.col) c.args.n c.link-link.result c.link-link.ensures c.requires.one_child in
    rw c.either_of.ensures (spliced_replaced g.T.Tally.of _ _ c.link-link.result _ (spliced g.T.Tally.of (column_of c.args.store.now c.args.col) c.args.n c.link-link.result c.requires.whole.tree c.requires.whole.is c.link-link.ensures one))

pub returns-clause-tree : goal.returns-clause-tree
returns-clause-tree g c = λ t w e.
    let one = one_child (column_of c.args.store.now c.args.col) c.args.n c.link-link.result c.link-link.ensures c.requires.one_child in
    let s = spliced g.T.Tally.of (column_of c.args.store.now c.args.col) c.args.n c.link-link.result t w c.link-link.ensures one in
    without g.T.Tally.of _ _ _ c.link-link.result t _ w s (c.rise.ensures.tree s.path (Fork s.l c.args.n s.r) (only s.l s.r) (rw c.either_of.ensures s.replaced) (e ∙ ap root (sym s.is)))
