use Rattle.std.proofs.Common.{◌≡◌, [], map, take}
use Rattle.node_store.specs.ByNode.{Columns}
use Rattle.index_set.specs.Indices.{lists_in}
use Rattle.index_set.proofs.Placing.{AreOwn}
use Rattle.index_set.proofs.every.empty_indices.Given as goal

abbrev pub invariant-loop-index : goal.invariant-loop-index
invariant-loop-index l = record {
  placed : (cs : Columns) → AreOwn cs (take l.index l.specs) l.indices.items;
  empty : (cs : Columns) → lists_in cs l.indices.items ≡ map (λ _. []) (take l.index l.specs);
}
