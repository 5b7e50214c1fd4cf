use Rattle.std.proofs.Common.{sym, ◌∙◌}
use Rattle.node_store.specs.ByNode.{column_of}
use Rattle.ord_tree.proofs.Below.{all_before, all_after}
use Rattle.ord_tree.proofs.Laws.{node_held, node_linked, Holds_next, Holds_prev, Spells_distinct}
use Rattle.ord_tree.proofs.tree.OrdTree.fits.Goals as goal

pub order_of-requires-clause-one : goal.order_of-requires-clause-one
order_of-requires-clause-one g c = node_linked c.args.store.now c.args.self.now c.in-Some.m c.requires.node.tree (Holds_prev _ c.args.n c.in-Some.m (sym c.prev.ensures ∙ c.in-Some.is))

pub order_of-requires-clause-digested : goal.order_of-requires-clause-digested
order_of-requires-clause-digested g c =
    let dist = Spells_distinct (column_of c.args.store.now) c.args.self.now _ c.requires.node.tree in
    all_before _ _ c.args.n c.requires.node.held dist c.requires.others.digested c.in-Some.m (sym c.prev.ensures ∙ c.in-Some.is)

pub order_of-requires-clause-other : goal.order_of-requires-clause-other
order_of-requires-clause-other g c = node_held c.args.store.now c.args.self.now c.args.n c.requires.node.tree c.requires.node.held

pub order_of-requires-in-Some-next-clause-one : goal.order_of-requires-in-Some-next-clause-one
order_of-requires-in-Some-next-clause-one g c =
    node_linked c.args.store.now c.args.self.now c.in-Some-next.m c.requires.node.tree (Holds_next _ c.args.n c.in-Some-next.m (sym c.next.ensures ∙ c.in-Some-next.is))

pub order_of-requires-in-Some-next-clause-digested : goal.order_of-requires-in-Some-next-clause-digested
order_of-requires-in-Some-next-clause-digested g c =
    let dist = Spells_distinct (column_of c.args.store.now) c.args.self.now _ c.requires.node.tree in
    all_after _ _ c.args.n c.requires.node.held dist c.requires.others.digested c.in-Some-next.m (sym c.next.ensures ∙ c.in-Some-next.is)

pub order_of-requires-in-Some-next-clause-other : goal.order_of-requires-in-Some-next-clause-other
order_of-requires-in-Some-next-clause-other g c = node_held c.args.store.now c.args.self.now c.args.n c.requires.node.tree c.requires.node.held
