use Rattle.ord_tree.proofs.Removing.{whole_node, next_of, has_tree, next_whole, next_gone, out_by_next}
use Rattle.ord_tree.proofs.removal.take_out.Goals as goal
use Rattle.node_store.specs.ByNode.{column_of}

pub link-left-requires : goal.link-left-requires
link-left-requires g c = whole_node g.T.Tally.of _ _ c.requires.tree c.requires.is

pub first_below-next-requires : goal.first_below-next-requires
first_below-next-requires g c =
    has_tree g.T.Tally.of (column_of c.args.store.now c.args.col) c.args.n c.in-Some.below c.link-left.result c.requires.tree c.requires.is c.link-left.ensures c.in-Some.is

pub splice-short_root-requires-clause-whole : goal.splice-short_root-requires-clause-whole
splice-short_root-requires-clause-whole g c =
    let w = c.requires in
    let x = next_of g.T.Tally.of (column_of c.args.store.now c.args.col) c.args.n c.in-Some.below c.first_below-next.result c.link-left.result w.tree w.is c.link-left.ensures c.in-Some.is c.first_below-next.ensures.first in
    record { tree = w.tree; is = next_whole g.T.Tally.of (column_of c.args.store.now c.args.col) c.args.n c.first_below-next.result w.tree w.is x; root_is = w.root_is }

pub replace-requires-clause-node : goal.replace-requires-clause-node
replace-requires-clause-node g c =
    let w = c.requires in
    let x = next_of g.T.Tally.of (column_of c.args.store.now c.args.col) c.args.n c.in-Some.below c.first_below-next.result c.link-left.result w.tree w.is c.link-left.ensures c.in-Some.is c.first_below-next.ensures.first in
    c.splice-short_root.ensures.nodes _ (whole_node g.T.Tally.of (column_of c.args.store.now c.args.col) c.first_below-next.result w.tree (next_whole g.T.Tally.of (column_of c.args.store.now c.args.col) c.args.n c.first_below-next.result w.tree w.is x))

pub replace-requires-clause-room : goal.replace-requires-clause-room
replace-requires-clause-room g c =
    let w = c.requires in
    let x = next_of g.T.Tally.of (column_of c.args.store.now c.args.col) c.args.n c.in-Some.below c.first_below-next.result c.link-left.result w.tree w.is c.link-left.ensures c.in-Some.is c.first_below-next.ensures.first in
    let o = c.splice-short_root.ensures.tree w.tree (next_whole g.T.Tally.of (column_of c.args.store.now c.args.col) c.args.n c.first_below-next.result w.tree w.is x) w.root_is in
    let gone = next_gone g.T.Tally.of (column_of c.args.store.now c.args.col) _ c.args.n c.first_below-next.result w.tree _ w.is x o in
    record { tree = o.tree; is = gone.whole; lacks = gone.lacks }

pub returns-clause-tree : goal.returns-clause-tree
returns-clause-tree g c = λ t w e.
    let x = next_of g.T.Tally.of (column_of c.args.store.now c.args.col) c.args.n c.in-Some.below c.first_below-next.result c.link-left.result t w c.link-left.ensures c.in-Some.is c.first_below-next.ensures.first in
    let o = c.splice-short_root.ensures.tree t (next_whole g.T.Tally.of (column_of c.args.store.now c.args.col) c.args.n c.first_below-next.result t w x) e in
    let gone = next_gone g.T.Tally.of (column_of c.args.store.now c.args.col) _ c.args.n c.first_below-next.result t _ w x o in
    out_by_next g.T.Tally.of (column_of c.args.store.now c.args.col) _ _ c.args.n c.first_below-next.result t _ _ w x o (c.replace.ensures.tree o.tree gone.whole gone.lacks o.root_is)
