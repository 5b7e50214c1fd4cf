use Rattle.std.proofs.Common.{sym, ◌∙◌}
use Rattle.node_store.specs.ByNode.{column_of}
use Rattle.ord_tree.specs.Spelled.{tree_of}
use Rattle.ord_tree.proofs.Laws.{the_tree}
use Rattle.ord_tree.proofs.NextTo.{next_is}
use Rattle.ord_tree.proofs.Removing.{index_whole, whole_node, has_tree, next_of, next_answer}
use Rattle.ord_tree.proofs.Climbing.{climb_from, has_climb}
use Rattle.ord_tree.proofs.tree.OrdTree.next.Goals as goal

pub link-link-requires : goal.link-link-requires
link-link-requires g c = whole_node g.T.Tally.of _ c.args.n _ (index_whole (column_of c.args.store.now) c.args.self.now c.args.n _ (the_tree _ _ c.requires.tree) c.requires.held)

pub first_below-requires : goal.first_below-requires
first_below-requires g c =
    let t = tree_of (column_of c.args.store.now) c.args.self.now in
    let w = index_whole (column_of c.args.store.now) c.args.self.now c.args.n t (the_tree _ _ c.requires.tree) c.requires.held in
    has_tree g.T.Tally.of _ c.args.n c.in-Some.right c.link-link.result t w c.link-link.ensures c.in-Some.is

pub returns-in-Some : goal.returns-in-Some
returns-in-Some g c =
    let t = tree_of (column_of c.args.store.now) c.args.self.now in
    let s = the_tree _ _ c.requires.tree in
    let h = c.requires.held in
    let w = index_whole (column_of c.args.store.now) c.args.self.now c.args.n t s h in
    let next = next_of g.T.Tally.of _ c.args.n c.in-Some.right c.first_below.result c.link-link.result t w c.link-link.ensures c.in-Some.is c.first_below.ensures.first in
    next_answer c.args.n c.first_below.result t h.before h.after s.distinct next h.is ∙ sym (next_is _ h.before c.args.n h.after s.distinct h.is)

pub next_above-requires-clause-below : goal.next_above-requires-clause-below
next_above-requires-clause-below g c = whole_node g.T.Tally.of _ c.args.n _ (index_whole (column_of c.args.store.now) c.args.self.now c.args.n _ (the_tree _ _ c.requires.tree) c.requires.held)

pub next_above-requires-clause-climbs : goal.next_above-requires-clause-climbs
next_above-requires-clause-climbs g c =
    let t = tree_of (column_of c.args.store.now) c.args.self.now in
    let w = index_whole (column_of c.args.store.now) c.args.self.now c.args.n t (the_tree _ _ c.requires.tree) c.requires.held in
    has_climb g.T.Tally.of _ c.args.n c.link-link.result t (climb_from g.T.Tally.of _ c.args.n c.link-link.result t w c.link-link.ensures c.in_default.is)

pub returns : goal.returns
returns g c =
    let t = tree_of (column_of c.args.store.now) c.args.self.now in
    let s = the_tree _ _ c.requires.tree in
    let h = c.requires.held in
    let w = index_whole (column_of c.args.store.now) c.args.self.now c.args.n t s h in
    let k = climb_from g.T.Tally.of _ c.args.n c.link-link.result t w c.link-link.ensures c.in_default.is in
    c.next_above.ensures k.path k.tree k.is ∙ k.answer h.before h.after h.is ∙ sym (next_is _ h.before c.args.n h.after s.distinct h.is)
