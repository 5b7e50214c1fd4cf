use Rattle.std.proofs.Common.{sym, ◌∙◌}
use Rattle.node_store.specs.ByNode.{record_of}
use Rattle.node_store.proofs.ByNode.{node_of_column}
use Rattle.ord_tree.proofs.Sides.{order_at_both}
use Rattle.ord_tree.proofs.Digested.{own_is}
use Rattle.ord_tree.proofs.tree.OrdTree.order_of.Goals as goal

pub get-requires : goal.get-requires
get-requires g c = node_of_column c.args.store.now c.args.self.now.col c.args.m c.requires.one

pub order_to_record-requires-clause-own : goal.order_to_record-requires-clause-own
order_to_record-requires-clause-own g c =
    own_is (g.E.Extract.digest_of c.args.keys.now c.args.self.now.index) c.args.store.now c.args.self.now.col c.args.m c.link.result _ c.requires.digested c.link.ensures c.get.ensures

pub returns : goal.returns
returns g c = c.order_to_record.ensures ∙ sym (order_at_both (record_of c.args.store.now) (g.E.Extract.order_of c.args.keys.now c.args.self.now.index) c.args.m c.args.n _ _ c.get.ensures c.get-2.ensures)
