use Rattle.std.proofs.Common.{◌≡◌, drop}
use Rattle.node_store.specs.ByNode.{record_of, columns_in}
use Rattle.index_set.specs.Indices.{lists_in}
use Rattle.index_set.specs.Lists.{ban_from}
use Rattle.index_set.proofs.bans.first_ban.Given as goal

abbrev pub invariant-loop-index : goal.invariant-loop-index
invariant-loop-index g l =
    ban_from (g.E.Extract.order_of l.keys) (record_of l.store) (lists_in (columns_in l.store) l.indices) l.except l.r l.index (drop l.index l.specs)
    ≡ ban_from (g.E.Extract.order_of l.keys) (record_of l.store) (lists_in (columns_in l.store) l.indices) l.except l.r 0 l.specs
