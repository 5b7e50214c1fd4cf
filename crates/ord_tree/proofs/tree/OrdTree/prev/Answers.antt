use Rattle.std.proofs.Common.{sym, ◌∙◌, reverse}
use Rattle.node_store.specs.ByNode.{column_of}
use Rattle.node_store.proofs.NodeLists.{first_reversed}
use Rattle.ord_tree.specs.Mirror.{mirror, flipped, flipped_link, flipped_tally}
use Rattle.ord_tree.specs.Spelled.{tree_of}
use Rattle.ord_tree.proofs.Laws.{the_tree}
use Rattle.ord_tree.proofs.NextTo.{prev_is}
use Rattle.ord_tree.proofs.Removing.{index_whole, whole_node, has_tree, next_of, next_answer}
use Rattle.ord_tree.proofs.Climbing.{climb_from, has_climb}
use Rattle.ord_tree.proofs.Mirror.{flip_link, Whole-mirror, list_mirrored}
use Rattle.ord_tree.proofs.tree.OrdTree.prev.Goals as goal

pub link-link-requires : goal.link-link-requires
link-link-requires g c = whole_node g.T.Tally.of _ c.args.n _ (index_whole (column_of c.args.store.now) c.args.self.now c.args.n _ (the_tree _ _ c.requires.tree) c.requires.held)

pub last_below-requires : goal.last_below-requires
last_below-requires g c =
    let t = tree_of (column_of c.args.store.now) c.args.self.now in
    let h = c.requires.held in
    let column = column_of c.args.store.now c.args.self.now.col in
    let w = index_whole (column_of c.args.store.now) c.args.self.now c.args.n t (the_tree _ _ c.requires.tree) h in
    let m = Whole-mirror g.T.Tally.of column c.args.n t h.before h.after w h.is in
    has_tree (flipped_tally g.T.Tally.of) (flipped column) c.args.n c.in-Some.left (flipped_link c.link-link.result) (mirror t) m (flip_link column c.args.n c.link-link.result c.link-link.ensures) c.in-Some.is

pub returns-in-Some : goal.returns-in-Some
returns-in-Some g c =
    let t = tree_of (column_of c.args.store.now) c.args.self.now in
    let s = the_tree _ _ c.requires.tree in
    let h = c.requires.held in
    let column = column_of c.args.store.now c.args.self.now.col in
    let w = index_whole (column_of c.args.store.now) c.args.self.now c.args.n t s h in
    let m = Whole-mirror g.T.Tally.of column c.args.n t h.before h.after w h.is in
    let next = next_of (flipped_tally g.T.Tally.of) (flipped column) c.args.n c.in-Some.left c.last_below.result (flipped_link c.link-link.result) (mirror t) m (flip_link column c.args.n c.link-link.result c.link-link.ensures) c.in-Some.is c.last_below.ensures.first in
    next_answer c.args.n c.last_below.result (mirror t) (reverse h.after) (reverse h.before) m.distinct next (list_mirrored t c.args.n h.before h.after h.is)
    ∙ first_reversed h.before ∙ sym (prev_is _ h.before c.args.n h.after s.distinct h.is)

pub prev_above-requires-clause-below : goal.prev_above-requires-clause-below
prev_above-requires-clause-below g c = whole_node g.T.Tally.of _ c.args.n _ (index_whole (column_of c.args.store.now) c.args.self.now c.args.n _ (the_tree _ _ c.requires.tree) c.requires.held)

pub prev_above-requires-clause-climbs : goal.prev_above-requires-clause-climbs
prev_above-requires-clause-climbs g c =
    let t = tree_of (column_of c.args.store.now) c.args.self.now in
    let h = c.requires.held in
    let column = column_of c.args.store.now c.args.self.now.col in
    let w = index_whole (column_of c.args.store.now) c.args.self.now c.args.n t (the_tree _ _ c.requires.tree) h in
    let m = Whole-mirror g.T.Tally.of column c.args.n t h.before h.after w h.is in
    has_climb (flipped_tally g.T.Tally.of) (flipped column) c.args.n (flipped_link c.link-link.result) (mirror t) (climb_from (flipped_tally g.T.Tally.of) (flipped column) c.args.n (flipped_link c.link-link.result) (mirror t) m (flip_link column c.args.n c.link-link.result c.link-link.ensures) c.in_default.is)

pub returns : goal.returns
returns g c =
    let t = tree_of (column_of c.args.store.now) c.args.self.now in
    let s = the_tree _ _ c.requires.tree in
    let h = c.requires.held in
    let column = column_of c.args.store.now c.args.self.now.col in
    let w = index_whole (column_of c.args.store.now) c.args.self.now c.args.n t s h in
    let m = Whole-mirror g.T.Tally.of column c.args.n t h.before h.after w h.is in
    let k = climb_from (flipped_tally g.T.Tally.of) (flipped column) c.args.n (flipped_link c.link-link.result) (mirror t) m (flip_link column c.args.n c.link-link.result c.link-link.ensures) c.in_default.is in
    c.prev_above.ensures k.path k.tree k.is ∙ k.answer (reverse h.after) (reverse h.before) (list_mirrored t c.args.n h.before h.after h.is)
    ∙ first_reversed h.before ∙ sym (prev_is _ h.before c.args.n h.after s.distinct h.is)
