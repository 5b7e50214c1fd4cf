use Rattle.std.proofs.Common.{◌≡◌}
use Rattle.node_store.specs.Store.{IsStore, len_of, width_of}
use Rattle.index_set.proofs.clear.remove_all.Given as goal

abbrev pub invariant-loop-n : goal.invariant-loop-n
invariant-loop-n g l = record {
  sound : IsStore l.store;
  count : l.store.added ≡ l.initial.store.added;
  width : width_of l.store ≡ width_of l.initial.store;
}

abbrev pub decreases-loop-n : goal.decreases-loop-n
decreases-loop-n g l = len_of l.store
