use Rattle.std.proofs.Common.{sym, ◌∙◌}
use Rattle.node_store.specs.ByNode.{column_of, record_of}
use Rattle.ord_tree.specs.Side.{side_of}
use Rattle.ord_tree.specs.Spelled.{spelled, index_of}
use Rattle.rank_tree.proofs.KeyRanks.{absent_rank}
use Rattle.rank_tree.proofs.Whole.{hangs_at, root_nodes, root_size}
use Rattle.rank_tree.proofs.ranks.find_rank.Goals as goal

pub size_of-requires : goal.size_of-requires
size_of-requires g c = root_nodes _ _ _ (hangs_at (column_of c.args.store.now) c.args.tree.now c.col.result c.requires.tree c.col.ensures.col) c.root.ensures

pub returns-else-met : goal.returns-else-met
returns-else-met g c =
    c.size_of.ensures
    ∙ root_size _ _ _ (hangs_at (column_of c.args.store.now) c.args.tree.now c.col.result c.requires.tree c.col.ensures.col) c.root.ensures
    ∙ sym (absent_rank (side_of (record_of c.args.store.now) (λ a. g.E.Extract.probe_order_of c.args.keys.now (index_of c.args.tree.now) a c.args.probe.now)) (spelled (column_of c.args.store.now) c.args.tree.now) (sym c.descend-rank.ensures.met ∙ c.if-met.false))
