use Rattle.std.proofs.Common.{ap, sym, ◌∙◌}
use Rattle.ord_tree.specs.Tree.{Fork, root}
use Rattle.ord_tree.proofs.Removing.{whole_node, whole_sides, side_low, relabelled, relabelled_replaced, substituted}
use Rattle.ord_tree.proofs.removal.replace.Goals as goal
use Rattle.node_store.specs.ByNode.{column_of}

pub link-link-requires : goal.link-link-requires
link-link-requires g c = whole_node g.T.Tally.of _ _ c.requires.room.tree c.requires.room.is

pub join-requires-clause-left : goal.join-requires-clause-left
join-requires-clause-left g c =
    let s = whole_sides g.T.Tally.of (column_of c.args.store.now c.args.col) c.args.old c.link-link.result c.requires.room.tree c.requires.room.is c.link-link.ensures in
    (side_low g.T.Tally.of (column_of c.args.store.now c.args.col) c.args.old c.link-link.result c.requires.room.tree s).0

pub join-requires-clause-right : goal.join-requires-clause-right
join-requires-clause-right g c =
    let s = whole_sides g.T.Tally.of (column_of c.args.store.now c.args.col) c.args.old c.link-link.result c.requires.room.tree c.requires.room.is c.link-link.ensures in
    (side_low g.T.Tally.of (column_of c.args.store.now c.args.col) c.args.old c.link-link.result c.requires.room.tree s).1

pub rise-requires-clause-old : goal.rise-requires-clause-old
rise-requires-clause-old g c = c.join.ensures.joined.nodes _ (whole_node g.T.Tally.of _ _ c.requires.room.tree c.requires.room.is)

pub rise-requires-clause-replaced : goal.rise-requires-clause-replaced
rise-requires-clause-replaced g c =
    let r = c.requires.room in
    relabelled_replaced g.T.Tally.of _ _ _ _ c.link-link.result r.tree (relabelled g.T.Tally.of (column_of c.args.store.now c.args.col) _ c.args.old c.args.new c.link-link.result r.tree r.is r.lacks c.link-link.ensures c.join.ensures.joined)

pub returns-clause-tree : goal.returns-clause-tree
returns-clause-tree g c = λ t w lacks e.
    let s = relabelled g.T.Tally.of (column_of c.args.store.now c.args.col) _ c.args.old c.args.new c.link-link.result t w lacks c.link-link.ensures c.join.ensures.joined in
    substituted g.T.Tally.of _ _ _ c.args.old c.args.new c.link-link.result t _ w s (c.rise.ensures.tree s.path (Fork s.l c.args.old s.r) (Fork s.l c.args.new s.r) s.replaced (e ∙ ap root (sym s.is)))
