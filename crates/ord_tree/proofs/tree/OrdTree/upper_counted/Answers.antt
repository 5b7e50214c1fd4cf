use Rattle.std.proofs.Common.{sym, ◌∙◌}
use Rattle.node_store.specs.ByNode.{record_of}
use Rattle.ord_tree.proofs.KeySides.{Rises-from}
use Rattle.ord_tree.proofs.Sought.{upper_found}
use Rattle.ord_tree.proofs.tree.OrdTree.upper_counted.Goals as goal

pub returns-clause-node : goal.returns-clause-node
returns-clause-node g c =
    let index = c.args.self.now.index in
    let cuts = g.met.E.Extract.probe_cuts c.args.keys.now index c.args.probe.now c.requires.key c.requires.fits in
    c.descend.ensures.node ∙ sym (upper_found _ _ (Rises-from (record_of c.args.store.now) (g.E.Extract.order_of c.args.keys.now index) (λ a. g.E.Extract.probe_order_of c.args.keys.now index a c.args.probe.now) _ cuts c.requires.order))
