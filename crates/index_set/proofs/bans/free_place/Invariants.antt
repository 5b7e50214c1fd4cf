use Rattle.std.proofs.Common.{◌≡◌, None, drop}
use Rattle.std.specs.Option.{option_or}
use Rattle.node_store.specs.ByNode.{columns_in, record_of}
use Rattle.index_set.specs.Indices.{lists_in}
use Rattle.index_set.specs.Lists.{ban_from}
use Rattle.index_set.specs.Places.{place_from}
use Rattle.index_set.proofs.bans.free_place.Given as goal

abbrev pub invariant-loop-index : goal.invariant-loop-index
invariant-loop-index g l = record {
  ban : ban_from (g.E.Extract.order_of l.keys) (record_of l.store) (lists_in (columns_in l.store) l.indices) None l.r l.index (drop l.index l.specs)
      ≡ ban_from (g.E.Extract.order_of l.keys) (record_of l.store) (lists_in (columns_in l.store) l.indices) None l.r 0 l.specs;
  place : option_or l.place (place_from (g.E.Extract.order_of l.keys) (record_of l.store) (lists_in (columns_in l.store) l.indices) l.r l.index (drop l.index l.specs))
      ≡ place_from (g.E.Extract.order_of l.keys) (record_of l.store) (lists_in (columns_in l.store) l.indices) l.r 0 l.specs;
}
