use Rattle.node_store.specs.ByNode.{record_of}
use Rattle.ord_tree.specs.Side.{order_at}
use Rattle.ord_tree.proofs.LastThat.{cut_at}
use Rattle.ord_tree.proofs.Sides.{order_at_total, IsCut_at}
use Rattle.ord_tree.proofs.tree.OrdTree.place_for.Goals as goal

pub place_behind-requires : goal.place_behind-requires
place_behind-requires g c =
    let records = record_of c.args.store.now in
    let compare = g.E.Extract.order_of c.args.keys.now c.args.self.now.index in
    let total = order_at_total records compare (g.met.E.Extract.order_total c.args.keys.now c.args.self.now.index c.requires.ordered.key) in
    let k = cut_at _ _ c.in-Some.last (IsCut_at (order_at records compare) total c.args.n _ c.requires.ordered.order) (c.requires.last c.in-Some.last c.in-Some.is) in
    record { tree = c.requires.ordered.tree; held = record { before = k.front; after = k.back; is = k.is } }

pub returns-in-Some : goal.returns-in-Some
returns-in-Some g c =
    let records = record_of c.args.store.now in
    let compare = g.E.Extract.order_of c.args.keys.now c.args.self.now.index in
    let total = order_at_total records compare (g.met.E.Extract.order_total c.args.keys.now c.args.self.now.index c.requires.ordered.key) in
    c.place_behind.ensures _ (IsCut_at (order_at records compare) total c.args.n _ c.requires.ordered.order) (c.requires.last c.in-Some.last c.in-Some.is)
