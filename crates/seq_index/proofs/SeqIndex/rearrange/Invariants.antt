use Rattle.std.proofs.Common.{◌≡◌, take}
use Rattle.node_store.specs.ByNode.{column_of, contents}
use Rattle.seq_index.specs.Spelled.{Spells, col_of, KeepsOthers}
use Rattle.seq_index.proofs.SeqIndex.rearrange.Given as goal

abbrev pub invariant-loop-n : goal.invariant-loop-n
invariant-loop-n g l = record {
  list : Spells (column_of l.store) l.self (take l.n-index l.order);
  col : col_of l.self ≡ col_of l.fn.self;
  others : KeepsOthers (column_of l.fn.store) (column_of l.store) (col_of l.fn.self);
  contents : contents l.store ≡ contents l.fn.store;
}
