use Rattle.node_store.specs.ByNode.{column_of}
use Rattle.ord_tree.specs.Spelled.{tree_of}
use Rattle.ord_tree.proofs.Laws.{the_tree}
use Rattle.ord_tree.proofs.LastThat.{behind, place_on_right, place_on_left}
use Rattle.ord_tree.proofs.Removing.{index_whole, whole_node, has_tree}
use Rattle.ord_tree.proofs.tree.OrdTree.place_behind.Goals as goal

pub link-requires : goal.link-requires
link-requires g c = whole_node g.T.Tally.of _ c.args.last _ (index_whole (column_of c.args.store.now) c.args.self.now c.args.last _ (the_tree _ _ c.requires.tree) c.requires.held)

pub first_below-requires : goal.first_below-requires
first_below-requires g c =
    let t = tree_of (column_of c.args.store.now) c.args.self.now in
    let w = index_whole (column_of c.args.store.now) c.args.self.now c.args.last t (the_tree _ _ c.requires.tree) c.requires.held in
    has_tree g.T.Tally.of _ c.args.last c.in-Some.right c.link.result t w c.link.ensures c.in-Some.is

pub returns-in-None : goal.returns-in-None
returns-in-None g c = λ q cut last.
    let t = tree_of (column_of c.args.store.now) c.args.self.now in
    let w = index_whole (column_of c.args.store.now) c.args.self.now c.args.last t (the_tree _ _ c.requires.tree) c.requires.held in
    place_on_right g.T.Tally.of _ q c.args.last c.link.result t (behind g.T.Tally.of _ q c.args.last c.link.result t w c.link.ensures cut last) c.in-None.is

pub returns-in-Some : goal.returns-in-Some
returns-in-Some g c = λ q cut last.
    let t = tree_of (column_of c.args.store.now) c.args.self.now in
    let w = index_whole (column_of c.args.store.now) c.args.self.now c.args.last t (the_tree _ _ c.requires.tree) c.requires.held in
    place_on_left g.T.Tally.of _ q c.args.last c.link.result t c.in-Some.right c.first_below.result (behind g.T.Tally.of _ q c.args.last c.link.result t w c.link.ensures cut last) c.in-Some.is c.first_below.ensures.first
